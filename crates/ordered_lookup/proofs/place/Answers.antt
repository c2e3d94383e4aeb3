use mathlib.Core.Path.{◌≡◌, refl, sym, ap, ◌∙◌}
use mathlib.Core.Bool.{Bool, true, false, ◌&&◌}
use Rattle.engine.specs.declared.Place.{Place}
use Rattle.rows.specs.Table.{table_of}
use Rattle.rows.proofs.OneRow.{all-rows}
use Rattle.ordered_lookup.specs.Halving.{key_place, last_free, with_room, place_ordered}
use Rattle.ordered_lookup.proofs.place.Goals as goal
use Rattle.ordered_lookup.proofs.place.Goals.{After-key_place, After-last_free}

-- what a lookup found, where there is room for a new row or not
found : (c : After-key_place) (p : Place) → c.key_place.result ≡ p → (room : Bool) → (c.args.new && last_free (table_of c.args.b.now).rows) ≡ room
    → with_room room p ≡ place_ordered c.args.new c.args.key.now (table_of c.args.b.now).rows
unfolding place_ordered
found c p e room r = sym (λ i. with_room (r i) ((all-rows-found c ∙ e) i))
  where
    all-rows-found : (d : After-key_place) → key_place d.args.key.now (table_of d.args.b.now).rows ≡ d.key_place.result
    all-rows-found d = sym (d.key_place.ensures ∙ ap (key_place d.args.key.now) (all-rows d.args.b.now d.all-rows.result.now d.all-rows.ensures.0))

room : (c : After-last_free) (free : Bool) → c.last_free.result ≡ free → (c.args.new && last_free (table_of c.args.b.now).rows) ≡ free
room c free e = rw c.if-new.true (sym (ap last_free (all-rows c.args.b.now c.all-rows.result.now c.all-rows.ensures.0)) ∙ sym c.last_free.ensures ∙ e)

pub returns-in-Over : goal.returns-in-Over
returns-in-Over c = found (goal.at.returns-in-Over c).After-key_place _ c.in-Over.is _ refl

pub returns-in-Into : goal.returns-in-Into
returns-in-Into c = found (goal.at.returns-in-Into c).After-key_place _ c.in-Into.is true (room (goal.at.returns-in-Into c).After-last_free true c.if-last_free.true)

pub returns-in_default : goal.returns-in_default
returns-in_default c = found (goal.at.returns-in_default c).After-key_place _ c.in-Into.is false (room (goal.at.returns-in_default c).After-last_free false c.if-last_free.false)

pub returns-in_default-2 : goal.returns-in_default-2
returns-in_default-2 c = found (goal.at.returns-in_default-2 c).After-key_place _ c.in-Into.is false (rw c.if-new.false)

pub returns-in_default-3 : goal.returns-in_default-3
returns-in_default-3 c = found (goal.at.returns-in_default-3 c).After-key_place _ c.in_default.is _ refl
