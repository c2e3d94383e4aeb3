-- A cursor past the end sees no bytes.
use Prim.Native.Nat.{ℕ, ◌≤◌}
use mathlib.Core.Path.{◌≡◌, ap, ◌∙◌}
use mathlib.Core.Bool.{true}
use mathlib.Core.List.{List, []}
use lib.ListN.{drop_of_length-le}
use borrow.Author.Tests.{le-ltb}
use Rattle.engine.specs.declared.Config.{Config}
use Rattle.engines.specs.Damage.{sound_by}
use Rattle.request.specs.Reading.{gate_of}
use Rattle.serving.specs.Serve.{Refused, gate_all, served}
use Rattle.run.specs.Claims.{PastEnd}

nothing-received : (config : Config) (b : List ℕ) (clock room : ℕ) → sound_by config b ≡ true → 1302 ≤ room → served config b clock [] room ≡ Refused 1 24
unfolding served gate_all gate_of
nothing-received config b clock room e r = rw (e, le-ltb room 1302 r)

pub past_end : (config : Config) → PastEnd config
past_end config b clock run at room h =
    let none_left = drop_of_length-le run {i = at} h in
    (none_left, λ e r. ap (λ (s : List ℕ). served config b clock s room) none_left ∙ nothing-received config b clock room e r)
