use mathlib.Core.Path.{◌≡◌, sym, ap, ◌∙◌}
use mathlib.Core.Logic.{◌⊎◌, inl, inr}
use Prim.Native.Nat.{ℕ}
use Rattle.engine.specs.declared.Place.{Place}
use Rattle.engine.specs.declared.Place.TheVariants.{Over, Into}
use Rattle.rows.specs.Table.{table_of}
use Rattle.rows.proofs.OneRow.{all-rows}
use Rattle.ordered_lookup.specs.Halving.{key_place, place_number, first_from}
use Rattle.ordered_lookup.proofs.first_from.Goals as goal
use Rattle.ordered_lookup.proofs.first_from.Goals.{After-key_place}

found : (c : After-key_place) (p : Place) → c.key_place.result ≡ p → place_number p ≡ first_from c.args.key.now (table_of c.args.b.now).rows
unfolding first_from
found c p e = ap place_number (sym e ∙ c.key_place.ensures ∙ ap (key_place c.args.key.now) (all-rows c.args.b.now c.all.result.now c.all.ensures.0))

pub returns-in-Full : goal.returns-in-Full
returns-in-Full c = found (goal.at.returns-in-Full c).After-key_place _ c.in-Full.is

-- over the row or before it, the place has that number
either : (c : After-key_place) (i : ℕ) → (c.key_place.result ≡ Over i) ⊎ (c.key_place.result ≡ Into i) → i ≡ first_from c.args.key.now (table_of c.args.b.now).rows
either c i h = elim h [ inl e ↦ found c (Over i) e | inr e ↦ found c (Into i) e ]

pub returns-in-Over : goal.returns-in-Over
returns-in-Over c = either (goal.at.returns-in-Over c).After-key_place _ c.in-Over.is

pub returns-in-Over-2 : goal.returns-in-Over-2
returns-in-Over-2 c = either (goal.at.returns-in-Over-2 c).After-key_place _ c.in-Over.is
