-- Replaying in memory of the right size answers outcome 0, so that every trace has its line.
use Rattle.std.specs.Prelude.{Option, Some, None}
use Prim.Native.Nat.{ℕ}
use mathlib.Core.Path.{◌≡◌, refl}
use mathlib.Core.Bool.{Bool, true, false, cond}
use mathlib.Core.List.{List, [], ◌∷◌}
use borrow.Author.Tests.{eq-eqb}
use lib.ListN.{length}
use lib.Dec.{eqb}
use Rattle.octets.specs.Compare.{same}
use Rattle.engine.specs.declared.Config.{Config}
use Rattle.serving.specs.Serve.{served}
use Rattle.trace.specs.declared.Opening.{Opening}
use Rattle.trace.specs.declared.Field.{Field}
use Rattle.trace.specs.declared.Field.TheVariants.{Clock, Frame, Reply, Purge, Rule}
use Rattle.trace.specs.Trace.{Placed, opening_of, fields_in}
use Rattle.replay.specs.Replay.{Differs, Stopped, Voyage, Turn, On, End, After, is_one_frame, with_clock, with_frame, with_purge, on_field, on_turn, walked, set_out, ruled_by, on_opening, replayed, replay_outcome}

abbrev Zero : After → Type 0
Zero a = replay_outcome a.answer ≡ 0

by-choice : (v : Voyage) (go : Voyage → After) (b : Bool) (x y : Turn) → Zero (on_turn v x go) → Zero (on_turn v y go) → Zero (on_turn v (cond b x y) go)
by-choice v go true x y p q = p
by-choice v go false x y p q = q

module _ (config : Config) where
  turn-zero : (at : ℕ) (v : Voyage) (f : Option Field) (bytes : List ℕ) (go : Voyage → After) → ((w : Voyage) → Zero (go w))
      → Zero (on_turn v (on_field config at v f bytes) go)
  turn-zero at v (Some (Clock clock)) bytes go h = h (with_clock clock v)
  turn-zero at v (Some (Frame len)) bytes go h =
      by-choice v go (is_one_frame (served config v.table v.clock bytes 1302) len) (On (with_frame config bytes v)) (End (Stopped at)) (h (with_frame config bytes v)) refl
  turn-zero at v (Some (Reply len)) bytes go h =
      by-choice v go (eqb v.frames 0) (End (Stopped at)) (cond (same bytes v.reply) (On v) (End (Differs at))) refl
      (by-choice v go (same bytes v.reply) (On v) (End (Differs at)) (h v) refl)
  turn-zero at v (Some (Purge bound)) bytes go h = h (with_purge config bound.0 v)
  turn-zero at v (Some (Rule forcing)) bytes go h = h v
  turn-zero at v None bytes go h = refl

  walked-zero : (v : Voyage) (ps : List Placed) → Zero (walked config v ps)
  walked-zero v [] = refl
  walked-zero v (p ∷ ps) = turn-zero p.at v p.field p.bytes (λ w. walked config w ps) (λ w. walked-zero w ps)

opening-zero : (config : Config) (b trace : List ℕ) (o : Option Opening) → Zero (on_opening config b trace o)
opening-zero config b trace None = refl
opening-zero config b trace (Some o) = walked-zero (ruled_by config trace) (set_out o.mode o.vbucket) (fields_in trace)

pub answers : (config : Config) (b trace : List ℕ) → length b ≡ 42000 → Zero (replayed config b trace)
unfolding replayed
answers config b trace e = rw (eq-eqb (length b) 42000 e) (opening-zero config b trace (opening_of trace))
