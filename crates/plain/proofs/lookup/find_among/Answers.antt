use Rattle.std.proofs.Common.{rules, tests, ◌∙◌}
use mathlib.Core.List.{List}
use Prim.Native.Nat.{ℕ}
use Rattle.std.proofs.lemmas.Iterator.{YieldsList-from_slice}
use Rattle.std.proofs.lemmas.Iterator.Adapters.{position_from-zero}
use Rattle.std.proofs.lemmas.Iterator.Search.{position_from_yields_List}
use Rattle.rows.specs.Row.{row_of}
use Rattle.plain.specs.Lookup.{holds}
use Rattle.plain.proofs.Rows.{found-in}
use Rattle.plain.proofs.lookup.find_among.Goals as goal

pub returns : goal.returns
returns c =
    let rs = c.args.rows.now in
    let key = c.args.key.now in
    position_from_yields_List (λ (r : List ℕ). holds key (row_of r)) _ _ c.position.result c.position.ensures.ran (YieldsList-from_slice _ c.iter.ensures.rest) (λ x b q k. search (rules, tests))
    ∙ position_from-zero (λ (r : List ℕ). holds key (row_of r)) rs
    ∙ found-in key 0 rs
