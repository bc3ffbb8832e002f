-- `word::inner::judge::judge_word` meets its contract: what taking the word apart says of it is its verdict at every place.
use Rattle.word.proofs.Verdicts.{real_done}
use Rattle.word.proofs.inner.judge.judge_word.Goals as goal

pub returns-in-Ok : goal.returns-in-Ok
returns-in-Ok c = (real_done _ _ _ c.in-Ok.ensures.0, tt)

pub returns-in-Err : goal.returns-in-Err
returns-in-Err c = rw c.at.ensures (c.in-Err.ensures c.args.place)
