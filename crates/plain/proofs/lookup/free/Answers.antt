use Rattle.std.proofs.Common.{rules, tests}
use mathlib.Core.Path.{ap, ◌∙◌}
use mathlib.Core.List.{List, map}
use Prim.Native.Nat.{ℕ}
use Rattle.std.proofs.lemmas.Iterator.{YieldsList-from_slice}
use Rattle.std.proofs.lemmas.Iterator.Adapters.{position_from-zero}
use Rattle.std.proofs.lemmas.Iterator.Search.{position_from_yields_List}
use Rattle.rows.specs.Row.{row_of}
use Rattle.rows.specs.Table.{table_of}
use Rattle.plain.specs.Lookup.{is_free, free_in}
use Rattle.plain.proofs.Rows.{free-in}
use Rattle.plain.proofs.lookup.free.Goals as goal

pub returns : goal.returns
unfolding table_of
returns c =
    let rs = c.all.result.now in
    position_from_yields_List (λ (r : List ℕ). is_free (row_of r)) _ _ c.position.result c.position.ensures.ran (YieldsList-from_slice _ c.iter.ensures.rest) (λ x b q k. search (rules, tests))
    ∙ position_from-zero (λ (r : List ℕ). is_free (row_of r)) rs
    ∙ free-in 0 rs
    ∙ ap (λ (l : List (List ℕ)). free_in 0 (map row_of l)) c.all.ensures.0
