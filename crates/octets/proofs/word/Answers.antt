use Rattle.octets.proofs.Words.{word-first, word-short}
use Rattle.octets.proofs.word.Goals as goal

pub returns-in-Some : goal.returns-in-Some
returns-in-Some c = let a = c.args in word-first a.s.now c.rest.result.now c.in-Some.bytes.now a.at _ c.rest.ensures c.in-Some.ensures.cases c.from_le_bytes.ensures

pub returns-in-None : goal.returns-in-None
returns-in-None c = let a = c.args in word-short a.s.now c.rest.result.now a.at c.rest.ensures c.in-None.ensures.cases
