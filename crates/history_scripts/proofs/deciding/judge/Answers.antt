use Rattle.history_scripts.proofs.deciding.judge.Goals as goal

pub returns-in-Fetch : goal.returns-in-Fetch
returns-in-Fetch g c =
    rw c.in-Fetch.is
    (c.judge_fetch.ensures c.args.core.now.setup c.args.core.now.past c.in-Fetch.actor c.in-Fetch.seq)
