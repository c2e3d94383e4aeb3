use mathlib.Core.Path.{ap, ◌∙◌}
use mathlib.Core.List.{List, map}
use Prim.Native.Nat.{ℕ}
use Rattle.rows.specs.Row.{row_of}
use Rattle.rows.specs.Table.{table_of}
use Rattle.plain.specs.Lookup.{find_in}
use Rattle.plain.proofs.lookup.find.Goals as goal

pub returns : goal.returns
unfolding table_of
returns c = c.find_among.ensures ∙ ap (λ (rs : List (List ℕ)). find_in c.args.key.now 0 (map row_of rs)) c.all.ensures.0
