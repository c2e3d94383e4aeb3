use Rattle.std.proofs.Common.{◌≡◌, ◌*◌}
use Rattle.fingerprint.specs.Fingerprint.{folded, fingerprint}
use Rattle.fingerprint.proofs.Mixing.{left}
use Rattle.fingerprint.proofs.of_key.Given as goal

abbrev pub invariant-loop-step : goal.invariant-loop-step
invariant-loop-step l = fingerprint l.key ≡ folded (left l.key (l.step-index * 16) l.a l.b)
