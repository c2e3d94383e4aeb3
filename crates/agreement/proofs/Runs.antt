-- A run of frames on twin tables: each call on them is answered alike, so that both runs stop at the same frame.
use Prim.Native.Nat.{ℕ, zero, suc, ◌+◌, ◌-◌, ◌^◌, ◌<◌}
use mathlib.Core.Path.{◌≡◌, refl, sym, ap, subst, ◌∙◌}
use mathlib.Core.List.{List, ◌++◌}
use lib.ListN.{length, take, drop, length-drop}
use Rattle.octets.specs.Parts.{Bytes}
use Rattle.octets.proofs.Lists.{bytes_drop}
use Rattle.engine.specs.declared.Config.{Config}
use Rattle.serving.specs.Serve.{Served, Refused, Done, served, served_table, served_reply}
use Rattle.tally.specs.declared.Tally.{Tally}
use Rattle.tally.specs.Counts.{counted_of}
use Rattle.run.specs.Run.{Stand, seen, called_on, further, on_done, stand_after, run_end, begun, ran_of}
use Rattle.agreement.proofs.Twins.{Twins}
use Rattle.agreement.proofs.Frames.{ServedAlike, serve-alike}

-- two runs that stand at the same place, with the same replies and tally, on twin tables
pub record Abreast (config other : Config) (x y : Stand) : Type 0 where
  pub tables : Twins config other x.table y.table
  pub reply : x.reply ≡ y.reply
  pub tally : x.tally ≡ y.tally
  pub at : x.at ≡ y.at
  pub filled : x.filled ≡ y.filled

module _ (config other : Config) (clock : ℕ) (run : List ℕ) (l : clock < 2 ^ 32) (z : Bytes run) where
  module _ (x y : Stand) (a : Abreast config other x y) where
    -- the next call, with what is left of the reply area
    call : ServedAlike config other x.table y.table clock (seen x.at run) (drop x.filled x.reply)
    call = serve-alike config other x.table y.table a.tables clock (seen x.at run) (bytes_drop x.at run z) l (drop x.filled x.reply)

    room : length (drop x.filled x.reply) ≡ length x.reply - x.filled
    room = length-drop x.filled x.reply

    pub called-alike : called_on config clock run x ≡ called_on other clock run y
    called-alike =
        ap (served config x.table clock (seen x.at run)) (sym room)
        ∙ call.answer
        ∙ ap (served other y.table clock (seen x.at run)) room
        ∙ (λ i. served other y.table clock (seen (a.at i) run) (length (a.reply i) - a.filled i))

    further-abreast : (status used len : ℕ) → Abreast config other (further config clock run x status used len) (further other clock run y status used len)
    further-abreast status used len = record {
      tables =
          subst (λ (c : List ℕ). Twins config other (served_table config x.table clock (seen x.at run) (length x.reply - x.filled)) c)
          (λ i. served_table other y.table clock (seen (a.at i) run) (length (a.reply i) - a.filled i))
          (subst (λ (n : ℕ). Twins config other (served_table config x.table clock (seen x.at run) n) (served_table other y.table clock (seen x.at run) n)) room call.tables);
      reply =
          ap (λ (zs : List ℕ). take x.filled x.reply ++ zs) call.reply
          ∙ (λ i. take (a.filled i) (a.reply i) ++ served_reply other y.table clock (seen (a.at i) run) (drop (a.filled i) (a.reply i)));
      tally = ap (λ (t : Tally). counted_of t (Done status used len)) a.tally;
      at = ap (λ (n : ℕ). n + used) a.at;
      filled = ap (λ (n : ℕ). n + len) a.filled;
    }

  on-done : (x y : Stand) → Abreast config other x y → (r : Served) (f g : ℕ → ℕ → ℕ → Stand)
      → ((status used len : ℕ) → Abreast config other (f status used len) (g status used len)) → Abreast config other (on_done r x f) (on_done r y g)
  on-done x y a (Refused n need) f g h = a
  on-done x y a (Done status used len) f g h = h status used len

  stand-alike : (n : ℕ) (x y : Stand) → Abreast config other x y → Abreast config other (stand_after config n clock run x) (stand_after other n clock run y)
  unfolding stand_after
  stand-alike zero x y a = a
  stand-alike (suc n) x y a =
      let f : ℕ → ℕ → ℕ → Stand = λ status used len. stand_after config n clock run (further config clock run x status used len) in
      let g : ℕ → ℕ → ℕ → Stand = λ status used len. stand_after other n clock run (further other clock run y status used len) in
      subst (λ (r : Served). Abreast config other (on_done (called_on config clock run x) x f) (on_done r y g)) (called-alike x y a)
      (on-done x y a (called_on config clock run x) f g
      (λ status used len. stand-alike n (further config clock run x status used len) (further other clock run y status used len) (further-abreast x y a status used len)))

  pub run-alike : (b c : List ℕ) (out : List ℕ) (t v : Tally) → Twins config other b c → t ≡ v
      → Abreast config other (run_end config clock run (begun b out t)) (run_end other clock run (begun c out v))
  unfolding run_end
  run-alike b c out t v w e =
      stand-alike (length run) (begun b out t) (begun c out v) (record { tables = w; reply = refl; tally = e; at = refl; filled = refl })

  pub ran-alike : (x y : Stand) → Abreast config other x y → ran_of config clock run x ≡ ran_of other clock run y
  unfolding ran_of
  ran-alike x y a = λ i. record { cursor = record { at = a.at i }; filled = a.filled i; tally = a.tally i; stop = called-alike x y a i }
