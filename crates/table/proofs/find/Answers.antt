use Rattle.table.proofs.Placed.{place-below, place_short, looked}
use mathlib.Core.Path.{sym, ◌∙◌}
use Rattle.table.proofs.find.Goals as goal

pub held-requires : goal.held-requires
held-requires c =
    let a = c.args in
    let e = sym c.place_for.ensures ∙ c.in-Over.is in
    (place-below a.config a.b.now a.key.now a.new _ e, place_short a.config a.b.now a.key.now a.new _ e)

pub returns-in-Over : goal.returns-in-Over
returns-in-Over c =
    let a = c.args in
    let found = sym c.in-Over.is ∙ c.place_for.ensures in
    looked a.config a.b.now a.key.now a.new _ _ found c.held.ensures

pub returns-in-Into : goal.returns-in-Into
returns-in-Into c =
    let a = c.args in
    let found = sym c.in-Into.is ∙ c.place_for.ensures in
    looked a.config a.b.now a.key.now a.new _ _ found c.absent.ensures

pub returns-in-Full : goal.returns-in-Full
returns-in-Full c =
    let a = c.args in
    let found = sym c.in-Full.is ∙ c.place_for.ensures in
    looked a.config a.b.now a.key.now a.new _ _ found c.absent-in-Full.ensures
