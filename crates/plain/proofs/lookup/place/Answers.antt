use mathlib.Core.Path.{sym, ap, ◌∙◌}
use mathlib.Core.Bool.{cond}
use Rattle.rows.specs.Table.{table_of}
use Rattle.std.specs.Prelude.{Option, None, ℕ}
use Rattle.plain.specs.Lookup.{free_in, found_place, place_by}
use Rattle.plain.proofs.lookup.place.Goals as goal

pub returns-in-Some : goal.returns-in-Some
unfolding place_by
returns-in-Some c =
    ap (λ (f : Option ℕ). found_place f (cond c.args.new (free_in 0 (table_of c.args.s.now).rows) None)) (sym c.in-Some.is ∙ c.find_key.ensures)

pub returns-in-None : goal.returns-in-None
unfolding place_by
returns-in-None c =
    c.free_place.ensures ∙ ap (λ (f : Option ℕ). found_place f (cond c.args.new (free_in 0 (table_of c.args.s.now).rows) None))
    (sym c.in-None.is ∙ c.find_key.ensures)
