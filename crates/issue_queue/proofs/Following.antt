-- Lists that are linked both ways: after a node more in front, and after a node less.
use Rattle.std.proofs.Common.{◌≡◌, ◌≢◌, ◌⊎◌, ℕ, ◌<◌, ◌≤◌, ◌==◌, not, true, false, cond, List, [], ◌∷◌, filter}
use Rattle.std.proofs.Common.{Option, Some, None, refl, sym, ap, ◌∙◌, subst, inl, inr, arith}
use Rattle.std.proofs.lemmas.Bool.{cases_eq}
use Rattle.std.proofs.lemmas.Bool.Decides.{nat_tests}
use Rattle.std.specs.List.{AllByRecursion}
use Rattle.numbers.specs.Sizes.{most_registers}
use Rattle.issue_queue.specs.Lists.{Stands}
use Rattle.issue_queue.specs.Waiting.{nodes, places, place_of, Follow, AreDistinct, IsList, AreLists, with_register}
use Rattle.issue_queue.proofs.Lists.{all_of, at_all, All-filter, Stands-filter}

-- ---- What nodes of a list are

pub below : (next before : ℕ → ℕ) (at : ℕ) (ns : List ℕ) → Follow next before at ns → AllByRecursion (λ n. n < nodes) ns
below next before at [] follow = tt
below next before at (n ∷ ns) follow = (follow.2, below next before n ns follow.3)

-- a list of which no link is written
same_links : (next before next2 before2 : ℕ → ℕ) (at : ℕ) (ns : List ℕ) → next2 at ≡ next at
    → AllByRecursion (λ n. next2 n ≡ next n) ns → AllByRecursion (λ n. before2 n ≡ before n) ns
    → Follow next before at ns → Follow next2 before2 at ns
same_links next before next2 before2 at [] from nexts befores follow = from ∙ follow
same_links next before next2 before2 at (n ∷ ns) from nexts befores follow = (
  from ∙ follow.0,
  befores.0 ∙ follow.1,
  follow.2,
  same_links next before next2 before2 n ns nexts.0 nexts.1 befores.1 follow.3,
)

-- ---- For what nodes wait

module _ (waits : ℕ → Option ℕ) (node : ℕ) (register : Option ℕ) where
  pub with_same : with_register waits node register node ≡ register
  with_same = let it : (node == node) ≡ true = grind (arith, nat_tests) in rw it refl

  pub with_other : (n : ℕ) → n ≢ node → with_register waits node register n ≡ waits n
  with_other n other = let apart : (n == node) ≡ false = grind (arith, nat_tests) in rw apart refl

-- nodes that wait for two things are two
pub differ : (waits : ℕ → Option ℕ) (m n : ℕ) (a b : Option ℕ) → waits m ≡ a → waits n ≡ b → a ≢ b → m ≢ n
differ waits m n a b is_a is_b apart same = apart (sym is_a ∙ ap waits same ∙ is_b)

pub none_some : (r : ℕ) → None ≢ Some r
none_some r same = cc

pub some_apart : (r s : ℕ) → r ≢ s → Some r ≢ Some s
some_apart r s apart same = let it : r ≡ s = cc in apart it

-- ---- A node more, in front

module _ (next before next2 before2 : ℕ → ℕ) (place node first : ℕ) (from : nodes ≤ place) (inside : node < nodes)
    (n_place : next2 place ≡ node) (n_node : next2 node ≡ first)
    (n_others : (i : ℕ) → i ≢ place → i ≢ node → next2 i ≡ next i)
    (b_node : before2 node ≡ place) (b_first : first < nodes → before2 first ≡ node)
    (b_others : (i : ℕ) → i ≢ node → i ≢ first → before2 i ≡ before i) where
  more_other : (at : ℕ) (ns : List ℕ) → Follow next before at ns → at ≢ place → at ≢ node
      → AllByRecursion (λ n. node ≢ n) ns → AllByRecursion (λ n. first ≢ n) ns
      → Follow next2 before2 at ns
  more_other at ns follow not_place not_node nodes_apart firsts_apart =
      let low = below next before at ns follow in
      same_links next before next2 before2 at ns (n_others at not_place not_node)
      (all_of (λ n. next2 n ≡ next n) ns (λ n there.
      let lt : n < nodes = at_all (λ m. m < nodes) ns n low there in
      n_others n (omega arith) (λ same. at_all (λ m. node ≢ m) ns n nodes_apart there (sym same))))
      (all_of (λ n. before2 n ≡ before n) ns (λ n there.
      b_others n (λ same. at_all (λ m. node ≢ m) ns n nodes_apart there (sym same))
      (λ same. at_all (λ m. first ≢ m) ns n firsts_apart there (sym same))))
      follow

  more_here : (ns : List ℕ) → Follow next before place ns → next place ≡ first → AllByRecursion (λ n. node ≢ n) ns
      → AreDistinct ns → Follow next2 before2 place (node ∷ ns)
  more_here [] follow is_first apart distinct = (n_place, b_node, inside, n_node ∙ sym is_first ∙ follow)
  more_here (n ∷ ns) follow is_first apart distinct =
      let same : first ≡ n = sym is_first ∙ follow.0 in
      let lt : first < nodes = omega (arith, follow.2, same) in
      let far : n ≢ place = omega (arith, follow.2, from) in (
        n_place,
        b_node,
        inside,
        (
          n_node ∙ same,
          subst (λ m. before2 m ≡ node) same (b_first lt),
          follow.2,
          more_other n ns follow.3 far (λ is. apart.0 (sym is)) apart.1
              (subst (λ m. AllByRecursion (λ k. m ≢ k) ns) (sym same) distinct.0),
        ),
      )

  module _ (waits : ℕ → Option ℕ) (register : ℕ) (is_place : place ≡ place_of register)
      (lists : AreLists next before waits) (is_first : next place ≡ first) (free : waits node ≡ None)
      (known : register < most_registers) where
    node_apart : (r : ℕ) (ns : List ℕ) → AllByRecursion (λ n. waits n ≡ Some r) ns → AllByRecursion (λ n. node ≢ n) ns
    node_apart r ns only =
        all_of (λ n. node ≢ n) ns (λ n there.
        differ waits node n None (Some r) free (at_all (λ m. waits m ≡ Some r) ns n only there) (none_some r))

    -- the first node of the list waits for the register too, if there is one
    first_apart_by : (ms : List ℕ) → Follow next before place ms → AllByRecursion (λ n. waits n ≡ Some register) ms
        → (r : ℕ) → r ≢ register → (ns : List ℕ) → AllByRecursion (λ n. n < nodes) ns
        → AllByRecursion (λ n. waits n ≡ Some r) ns → AllByRecursion (λ n. first ≢ n) ns
    first_apart_by [] follow mine r other ns low only =
        all_of (λ n. first ≢ n) ns (λ n there.
        let lt : n < nodes = at_all (λ m. m < nodes) ns n low there in
        let none : first ≡ places = sym is_first ∙ follow in
        omega arith)
    first_apart_by (m ∷ ms) follow mine r other ns low only =
        all_of (λ n. first ≢ n) ns (λ n there.
        let same : first ≡ m = sym is_first ∙ follow.0 in
        differ waits first n (Some register) (Some r) (ap waits same ∙ mine.0)
        (at_all (λ k. waits k ≡ Some r) ns n only there) (some_apart register r (λ is. other (sym is))))

    stays_only : (r : ℕ) (ns : List ℕ) → AllByRecursion (λ n. waits n ≡ Some r) ns
        → AllByRecursion (λ n. with_register waits node (Some register) n ≡ Some r) ns
    stays_only r ns only =
        let apart = node_apart r ns only in
        all_of (λ n. with_register waits node (Some register) n ≡ Some r) ns (λ n there.
        with_other waits node (Some register) n (λ same. at_all (λ m. node ≢ m) ns n apart there (sym same))
        ∙ at_all (λ m. waits m ≡ Some r) ns n only there)

    pub pushed : AreLists next2 before2 (with_register waits node (Some register))
    pushed r inside_r =
        let l = lists r inside_r in
        let mine = lists register known in
        elim (cases_eq r register) [
          | inl same ↦
              subst (IsList next2 before2 (with_register waits node (Some register))) (sym same)
              (record {
                members = node ∷ mine.members;
                follow = subst (λ p. Follow next2 before2 p (node ∷ mine.members)) is_place
                    (more_here mine.members
                    (subst (λ p. Follow next before p mine.members) (sym is_place) mine.follow) is_first
                    (node_apart register mine.members mine.only) mine.distinct);
                distinct = (node_apart register mine.members mine.only, mine.distinct);
                only = (with_same waits node (Some register), stays_only register mine.members mine.only);
                each = λ n lt is.
                    elim (cases_eq n node) [
                      | inl it ↦ inl (sym it)
                      | inr other ↦
                          inr (mine.each n lt (sym (with_other waits node (Some register) n other) ∙ is))
                    ];
              })
          | inr other ↦ record {
            members = l.members;
            follow = more_other (place_of r) l.members l.follow (omega (arith, is_place)) (omega (arith, inside))
                (node_apart r l.members l.only)
                (first_apart_by mine.members
                (subst (λ p. Follow next before p mine.members) (sym is_place) mine.follow) mine.only r other l.members
                (below next before (place_of r) l.members l.follow) l.only);
            distinct = l.distinct;
            only = stays_only r l.members l.only;
            each = λ n lt is.
                elim (cases_eq n node) [
                  | inl it ↦
                      let mixed : Some register ≡ Some r =
                      sym (with_same waits node (Some register))
                      ∙ ap (with_register waits node (Some register)) (sym it) ∙ is in
                      absurd (some_apart register r (λ same. other (sym same)) mixed)
                  | inr apart ↦ l.each n lt (sym (with_other waits node (Some register) n apart) ∙ is)
                ];
          }
        ]

-- ---- A node less

module _ (next before : ℕ → ℕ) (node p q : ℕ) (inside : node < nodes) (p_is : before node ≡ p) (q_is : next node ≡ q) where
  pub p_stands : (at : ℕ) (ns : List ℕ) → Follow next before at ns → Stands node ns → (p ≡ at) ⊎ Stands p ns
  p_stands at [] follow there = absurd there
  p_stands at (n ∷ ns) follow (inl same) = inl (sym p_is ∙ ap before (sym same) ∙ follow.1)
  p_stands at (n ∷ ns) follow (inr there) =
      elim (p_stands n ns follow.3 there) [ inl is ↦ inr (inl (sym is)) | inr later ↦ inr (inr later) ]

  q_after : (ns : List ℕ) → Follow next before node ns → (q ≡ places) ⊎ Stands q ns
  q_after [] follow = inl (sym q_is ∙ follow)
  q_after (n ∷ ns) follow = inr (inl (sym follow.0 ∙ q_is))

  q_stands : (at : ℕ) (ns : List ℕ) → Follow next before at ns → Stands node ns → (q ≡ places) ⊎ Stands q ns
  q_stands at [] follow there = absurd there
  q_stands at (n ∷ ns) follow (inl same) =
      elim (q_after ns (subst (λ m. Follow next before m ns) same follow.3))
      [ inl is ↦ inl is | inr later ↦ inr (inr later) ]
  q_stands at (n ∷ ns) follow (inr there) =
      elim (q_stands n ns follow.3 there) [ inl is ↦ inl is | inr later ↦ inr (inr later) ]

  module _ (waits : ℕ → Option ℕ) (register : ℕ) (lists : AreLists next before waits)
      (known : register < most_registers) (there : waits node ≡ Some register) where
    stood : Stands node (lists register known).members
    stood = (lists register known).each node inside there

    pub within : p < places
    within =
        let mine = lists register known in
        elim (p_stands (place_of register) mine.members mine.follow stood) [
          | inl is ↦ omega (arith, is, known)
          | inr later ↦
              let lt = at_all (λ m. m < nodes) mine.members p
              (below next before (place_of register) mine.members mine.follow) later in
              omega (arith, lt)
        ]

  module _ (next2 before2 : ℕ → ℕ) (n_p : next2 p ≡ q) (n_others : (i : ℕ) → i ≢ p → next2 i ≡ next i)
      (b_q : q < nodes → before2 q ≡ p) (b_others : (i : ℕ) → i ≢ q → before2 i ≡ before i) where
    less_other : (at : ℕ) (ns : List ℕ) → Follow next before at ns → at ≢ p → AllByRecursion (λ n. n ≢ p) ns
        → AllByRecursion (λ n. n ≢ q) ns → Follow next2 before2 at ns
    less_other at ns follow not_p ps qs =
        same_links next before next2 before2 at ns (n_others at not_p)
        (all_of (λ n. next2 n ≡ next n) ns (λ n there. n_others n (at_all (λ m. m ≢ p) ns n ps there)))
        (all_of (λ n. before2 n ≡ before n) ns (λ n there. b_others n (at_all (λ m. m ≢ q) ns n qs there))) follow

    abbrev others : List ℕ → List ℕ
    others ns = filter (λ m. not (m == node)) ns

    all_stay : (ns : List ℕ) → AllByRecursion (λ m. node ≢ m) ns → others ns ≡ ns
    all_stay [] apart = refl
    all_stay (n ∷ ns) apart =
        let far = apart.0 in
        let stays : not (n == node) ≡ true = grind (arith, nat_tests, far) in
        rw stays (ap (λ ms. n ∷ ms) (all_stay ns apart.1))

    skipped : (at : ℕ) (ns : List ℕ) → p ≡ at → Follow next before node ns → AreDistinct ns
        → AllByRecursion (λ n. at ≢ n) ns → Follow next2 before2 at ns
    skipped at [] is_at follow distinct apart = subst (λ m. next2 m ≡ places) is_at (n_p ∙ sym q_is ∙ follow)
    skipped at (n ∷ ns) is_at follow distinct apart =
        let same : q ≡ n = sym q_is ∙ follow.0 in
        let lt : q < nodes = omega (arith, follow.2, same) in
        let far : AllByRecursion (λ m. m ≢ p) ns =
        all_of (λ m. m ≢ p) ns (λ m there is. at_all (λ k. at ≢ k) ns m apart.1 there (sym (is ∙ is_at))) in
        let behind : AllByRecursion (λ m. m ≢ q) ns =
        all_of (λ m. m ≢ q) ns (λ m there is. at_all (λ k. n ≢ k) ns m distinct.0 there (sym (is ∙ same))) in (
          subst (λ m. next2 m ≡ n) is_at (n_p ∙ same),
          subst (λ m. before2 m ≡ at) same (b_q lt ∙ is_at),
          follow.2,
          less_other n ns follow.3 (λ is. apart.0 (sym (is ∙ is_at))) far behind,
        )

    less_here : (at : ℕ) (ns : List ℕ) → Follow next before at ns → AreDistinct ns → AllByRecursion (λ n. at ≢ n) ns
        → Stands node ns → Follow next2 before2 at (others ns)
    less_here at [] follow distinct apart there = absurd there
    less_here at (n ∷ ns) follow distinct apart (inl same) =
        let gone : not (n == node) ≡ false = grind (arith, nat_tests, same) in
        let far = subst (λ m. AllByRecursion (λ k. m ≢ k) ns) same distinct.0 in
        rw (gone, all_stay ns far)
        (skipped at ns (sym p_is ∙ ap before (sym same) ∙ follow.1)
        (subst (λ m. Follow next before m ns) same follow.3) distinct.1 apart.1)
    less_here at (n ∷ ns) follow distinct apart (inr there) =
        let far : n ≢ node = at_all (λ m. n ≢ m) ns node distinct.0 there in
        let stays : not (n == node) ≡ true = grind (arith, nat_tests, far) in
        let not_p : at ≢ p =
        λ is. elim (p_stands n ns follow.3 there) [
          | inl it ↦ apart.0 (is ∙ it)
          | inr later ↦ at_all (λ m. at ≢ m) ns p apart.1 later is
        ] in
        let not_q : n ≢ q =
        λ is. elim (q_stands n ns follow.3 there) [
          | inl it ↦ let lt = follow.2 in absurd (omega (arith, lt, is, it))
          | inr later ↦ at_all (λ m. n ≢ m) ns q distinct.0 later is
        ] in
        rw stays (
          n_others at not_p ∙ follow.0,
          b_others n not_q ∙ follow.1,
          follow.2,
          less_here n ns follow.3 distinct.1 distinct.0 there,
        )

    distinct_stays : (ns : List ℕ) → AreDistinct ns → AreDistinct (others ns)
    distinct_stays [] distinct = tt
    distinct_stays (n ∷ ns) distinct =
        elim (not (n == node)) as (λ b. AreDistinct (cond b (n ∷ others ns) (others ns))) [
          | true ↦ (All-filter (λ m. n ≢ m) (λ m. not (m == node)) ns distinct.0, distinct_stays ns distinct.1)
          | false ↦ distinct_stays ns distinct.1
        ]

    module _ (waits : ℕ → Option ℕ) (register : ℕ) (lists : AreLists next before waits)
        (known : register < most_registers) (there : waits node ≡ Some register) where
      stands : Stands node (lists register known).members
      stands = (lists register known).each node inside there

      -- what stands in another list is neither of the two that are written
      not_p : (r : ℕ) → r ≢ register → (n : ℕ) → n < nodes → waits n ≡ Some r → n ≢ p
      not_p r other n lt is same =
          let mine = lists register known in
          elim (p_stands (place_of register) mine.members mine.follow stands) [
            | inl it ↦ absurd (omega (arith, lt, same, it))
            | inr later ↦
                differ waits n p (Some r) (Some register) is
                (at_all (λ m. waits m ≡ Some register) mine.members p mine.only later) (some_apart r register other) same
          ]

      not_q : (r : ℕ) → r ≢ register → (n : ℕ) → n < nodes → waits n ≡ Some r → n ≢ q
      not_q r other n lt is same =
          let mine = lists register known in
          elim (q_stands (place_of register) mine.members mine.follow stands) [
            | inl it ↦ absurd (omega (arith, lt, same, it))
            | inr later ↦
                differ waits n q (Some r) (Some register) is
                (at_all (λ m. waits m ≡ Some register) mine.members q mine.only later) (some_apart r register other) same
          ]

      place_apart : (r : ℕ) → r ≢ register → place_of r ≢ p
      place_apart r other same =
          let mine = lists register known in
          elim (p_stands (place_of register) mine.members mine.follow stands) [
            | inl it ↦ absurd (omega (arith, other, same, it))
            | inr later ↦
                let lt = at_all (λ m. m < nodes) mine.members p
                (below next before (place_of register) mine.members mine.follow) later in
                absurd (omega (arith, lt, same))
          ]

      gone_only : (r : ℕ) (ns : List ℕ) → AllByRecursion (λ n. waits n ≡ Some r) ns → AllByRecursion (λ n. n ≢ node) ns
          → AllByRecursion (λ n. with_register waits node None n ≡ Some r) ns
      gone_only r ns only apart =
          all_of (λ n. with_register waits node None n ≡ Some r) ns (λ n stood.
          with_other waits node None n (at_all (λ m. m ≢ node) ns n apart stood)
          ∙ at_all (λ m. waits m ≡ Some r) ns n only stood)

      gone_each : (r n : ℕ) → with_register waits node None n ≡ Some r → (n ≢ node) × (waits n ≡ Some r)
      gone_each r n is =
          let apart : n ≢ node =
          λ same. none_some r (sym (with_same waits node None) ∙ ap (with_register waits node None) (sym same) ∙ is) in
          (apart, sym (with_other waits node None n apart) ∙ is)

      apart_by_filter : (ns : List ℕ) → AllByRecursion (λ n. n ≢ node) (others ns)
      apart_by_filter [] = tt
      apart_by_filter (n ∷ ns) =
          elim (cases_eq n node) [
            | inl same ↦
                let gone : not (n == node) ≡ false = grind (arith, nat_tests, same) in rw gone (apart_by_filter ns)
            | inr other ↦
                let stays : not (n == node) ≡ true = grind (arith, nat_tests, other) in
                rw stays (other, apart_by_filter ns)
          ]

      pub removed : AreLists next2 before2 (with_register waits node None)
      removed r inside_r =
          let l = lists r inside_r in
          let mine = lists register known in
          elim (cases_eq r register) [
            | inl same ↦
                subst (IsList next2 before2 (with_register waits node None)) (sym same)
                (record {
                  members = others mine.members;
                  follow = less_here (place_of register) mine.members mine.follow mine.distinct
                      (all_of (λ n. place_of register ≢ n) mine.members (λ n stood.
                      let lt : n < nodes = at_all (λ m. m < nodes) mine.members n
                      (below next before (place_of register) mine.members mine.follow) stood in
                      omega (arith, lt))) stands;
                  distinct = distinct_stays mine.members mine.distinct;
                  only = gone_only register (others mine.members)
                      (All-filter (λ n. waits n ≡ Some register) (λ m. not (m == node)) mine.members mine.only)
                      (apart_by_filter mine.members);
                  each = λ n lt is.
                      let was = gone_each register n is in
                      let far = was.0 in
                      Stands-filter (λ m. not (m == node)) n mine.members (mine.each n lt was.1)
                      (grind (arith, nat_tests, far));
                })
            | inr other ↦
                let low = below next before (place_of r) l.members l.follow in
                record {
                  members = l.members;
                  follow = less_other (place_of r) l.members l.follow (place_apart r other)
                      (all_of (λ n. n ≢ p) l.members (λ n stood.
                      not_p r other n (at_all (λ m. m < nodes) l.members n low stood)
                      (at_all (λ m. waits m ≡ Some r) l.members n l.only stood)))
                      (all_of (λ n. n ≢ q) l.members (λ n stood.
                      not_q r other n (at_all (λ m. m < nodes) l.members n low stood)
                      (at_all (λ m. waits m ≡ Some r) l.members n l.only stood)));
                  distinct = l.distinct;
                  only = gone_only r l.members l.only
                      (all_of (λ n. n ≢ node) l.members (λ n stood.
                      differ waits n node (Some r) (Some register)
                      (at_all (λ m. waits m ≡ Some r) l.members n l.only stood) there (some_apart r register other)));
                  each = λ n lt is. l.each n lt (gone_each r n is).1;
                }
          ]

-- ---- The first of a list

module _ (next before : ℕ → ℕ) (waits : ℕ → Option ℕ) (register : ℕ) (list : IsList next before waits register)
    (first : ℕ) (is_first : next (place_of register) ≡ first) where
  some_waits : (ms : List ℕ) → Follow next before (place_of register) ms
      → AllByRecursion (λ n. waits n ≡ Some register) ms → first < nodes → waits first ≡ Some register
  some_waits [] follow only low = absurd (omega (arith, low, is_first, follow))
  some_waits (m ∷ ms) follow only low = ap waits (sym is_first ∙ follow.0) ∙ only.0

  pub first-there : first < nodes → (first < nodes) × (waits first ≡ Some register)
  first-there low = (low, some_waits list.members list.follow list.only low)

  none_waits : (ms : List ℕ) → Follow next before (place_of register) ms → nodes ≤ first → (n : ℕ) → Stands n ms → ⊥
  none_waits [] follow high n there = there
  none_waits (m ∷ ms) follow high n there = omega (arith, high, is_first, follow.0, follow.2)

  pub first-absent : nodes ≤ first → (n : ℕ) → n < nodes → waits n ≢ Some register
  first-absent high n lt is = none_waits list.members list.follow high n (list.each n lt is)
