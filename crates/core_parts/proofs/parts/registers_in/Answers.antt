use Rattle.std.proofs.Common.{arith}
use Rattle.free_list.specs.Flags.{holds}
use Rattle.core_parts.proofs.Listing.{listed_fits, listed_whole}
use Rattle.core_parts.proofs.parts.registers_in.Goals as goal

pub push-requires : goal.push-requires
push-requires c =
    let fits = listed_fits (λ x. holds c.args.free.now x) c.loop-register.register c.loop-register.registers.items
    c.loop-register.invariant in
    let inside = c.loop-register-test.true in
    (omega arith, omega arith)

pub returns : goal.returns
returns c = listed_whole (λ x. holds c.args.free.now x) c.loop-register.register c.loop-register.registers.items
    (let all = c.loop-register-test.false in let within = c.loop-register.auto.register-end in omega arith)
    c.loop-register.invariant
