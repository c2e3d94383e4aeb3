-- Each field of a trace does the same on twin tables, and leaves twin tables.
use Rattle.std.specs.Prelude.{Option, Some, None}
use native.Mathlib.Omega.{arith}
use Prim.Native.Nat.{ℕ, ◌+◌, ◌^◌, ◌≤◌, ◌<◌}
use mathlib.Core.Path.{◌≡◌, refl, sym, ap, subst, ◌∙◌}
use mathlib.Core.List.{List, [], ◌∷◌}
use mathlib.Core.Logic.{◌⊎◌, inl, inr}
use lib.ListN.{length, replicate, length-replicate}
use lib.Dec.{eqb}
use borrow.Author.Tests.{eqb-true, eqb-false, eq-eqb}
use Rattle.engine.specs.declared.Config.{Config}
use Rattle.octets.specs.Parts.{Bytes}
use Rattle.octets.specs.Compare.{same}
use Rattle.octets.specs.BigEndian.{num}
use Rattle.octets.proofs.Choices.{cases}
use Rattle.octets.proofs.Lists.{bytes-part}
use Rattle.octets.proofs.Numbers.{num-below}
use Rattle.request.specs.Reading.{Gate, Stop, Whole}
use Rattle.rows.specs.Table.{Table, table_bytes, fresh}
use Rattle.serving.specs.Serve.{Served, gate_all, served, served_table}
use Rattle.trace.specs.declared.Field.{Field}
use Rattle.trace.specs.declared.Field.TheVariants.{Clock, Frame, Reply, Purge, Rule}
use Rattle.trace.specs.Trace.{Placed, opening_of, fields_in}
use Rattle.replay.specs.Replay.{Voyage, is_one_frame, reply_for, sent_reply, on_field, on_turn, After, walked, ruled_by, replayed}
use Rattle.engines.specs.Damage.{sound_by}
use Rattle.agreement.specs.Agreement.{SameTable}
use Rattle.agreement.proofs.Twins.{Twin, Twins, twins, by-tables, same-table, fresh-twin}
use Rattle.agreement.proofs.Frames.{gate-alike, reply-alike, serve-alike}
use Rattle.agreement.proofs.Owning.{purge-alike}
use Rattle.voyages.specs.Spelling.{WellOpened, said_at, SpeltAt, SpeltFrom}
use Rattle.voyages.specs.Alike.{ReplaysAlike}
use Rattle.voyages.proofs.Spelling.{opened-or-not, opening-read, unopened, other-size-refused, after, fields-spelt}

-- ---- the numbers of a trace of bytes
-- a clock has 32 bits
abbrev Short : Option Field → Type 0
Short (Some (Clock n)) = n < 2 ^ 32
Short (Some (Frame len)) = Unit {0}
Short (Some (Reply len)) = Unit {0}
Short (Some (Purge bound)) = Unit {0}
Short (Some (Rule forcing)) = Unit {0}
Short None = Unit {0}

abbrev AllShort : List Placed → Type 0
AllShort [] = Unit {0}
AllShort (p ∷ ps) = Bytes p.bytes × (Short p.field × AllShort ps)

module _ (trace : List ℕ) (y : Bytes trace) where
  short : (at : ℕ) (f : Option Field) → SpeltAt trace at f → Short f
  short at (Some (Clock n)) s = subst (λ (m : ℕ). m < 2 ^ 32) (sym s.1.1.1) (num-below trace (at + 3) 4 y)
  short at (Some (Frame len)) s = tt
  short at (Some (Reply len)) s = tt
  short at (Some (Purge bound)) s = tt
  short at (Some (Rule forcing)) s = tt
  short at None s = tt

  all_short : (at : ℕ) (ps : List Placed) → SpeltFrom trace at ps → AllShort ps
  all_short at [] w = tt
  all_short at (p ∷ ps) w =
      let (spelt, (held, next)) = w.1.1 in
      let on = at + (3 + said_at trace at) in (
        subst Bytes (sym held) (bytes-part trace (at + 3) (said_at trace at) y),
        (short at p.field spelt, after AllShort tt p.field ps (SpeltFrom trace on ps) (all_short on ps) next),
      )

-- ---- a frame's reply
module _ (config other : Config) (clock : ℕ) (s : List ℕ) (y : Bytes s) (l : clock < 2 ^ 32) where
  by-gate : (t u : Table) (w : Twin config other t u) (g : Gate) → reply_for config (table_bytes t) clock s g ≡ reply_for other (table_bytes u) clock s g
  by-gate t u w (Stop n need) = refl
  by-gate t u w (Whole h) = reply-alike config other t u w clock s y l h

  sent-alike : (b c : List ℕ) → Twins config other b c → sent_reply config b clock s ≡ sent_reply other c clock s
  unfolding sent_reply
  sent-alike b c w =
      by-tables config other b c w (λ x z. sent_reply config x clock s ≡ sent_reply other z clock s)
      (λ t u v. by-gate t u v (gate_all config (table_bytes t) 1302 s) ∙ ap (reply_for other (table_bytes u) clock s) (gate-alike config other t u v clock s y l 1302))

-- ---- one field more
record EndsAlike (config other : Config) (x y : After) : Type 0 where
  answer : x.answer ≡ y.answer
  tables : Twins config other x.table y.table

abbrev standing : List ℕ → ℕ → ℕ → List ℕ → Voyage
standing b clock frames reply = record { table = b; clock = clock; frames = frames; reply = reply }

abbrev WalksAlike : Config → Config → List Placed → Type 0
WalksAlike config other ps =
    (b c : List ℕ) → Twins config other b c → (clock frames : ℕ) (reply : List ℕ) → clock < 2 ^ 32
    → EndsAlike config other (walked config (standing b clock frames reply) ps) (walked other (standing c clock frames reply) ps)

module _ (config other : Config) (ps : List Placed) (rest : WalksAlike config other ps) (b c : List ℕ) (w : Twins config other b c) where
  module _ (clock frames : ℕ) (reply : List ℕ) (l : clock < 2 ^ 32) (at : ℕ) (bytes : List ℕ) (y : Bytes bytes) where
    abbrev By : Option Field → Type 0
    By f =
        EndsAlike config other (on_turn (standing b clock frames reply) (on_field config at (standing b clock frames reply) f bytes) (λ v. walked config v ps))
        (on_turn (standing c clock frames reply) (on_field other at (standing c clock frames reply) f bytes) (λ v. walked other v ps))

    serves : (len : ℕ) → By (Some (Frame len))
    serves len =
        let s = serve-alike config other b c w clock bytes y l (replicate {A = ℕ} 1302 0) in
        let size = length-replicate {A = ℕ} 1302 0 in
        let answer = subst (λ (k : ℕ). served config b clock bytes k ≡ served other c clock bytes k) size s.answer in
        let tables = subst (λ (k : ℕ). Twins config other (served_table config b clock bytes k) (served_table other c clock bytes k)) size s.tables in
        let one = ap (λ (r : Served). is_one_frame r len) answer in
        let sent = sent_reply config b clock bytes in
        let go = rest _ _ tables clock (frames + 1) sent l in
        let past : Config → List ℕ → List ℕ → After = λ k t r. walked k (standing (served_table k t clock bytes 1302) clock (frames + 1) r) ps in
        cases (is_one_frame (served config b clock bytes 1302) len)
        (λ t. rw (t, sym one ∙ t) (subst (λ (r : List ℕ). EndsAlike config other (past config b sent) (past other c r)) (sent-alike config other clock bytes y l b c w) go))
        (λ t. rw (t, sym one ∙ t) (record { answer = refl; tables = w }))

    turn : (f : Option Field) → Short f → By f
    turn (Some (Clock n)) k = rest b c w n frames reply k
    turn (Some (Frame len)) k = serves len
    turn (Some (Reply len)) k =
        cases (eqb frames 0) (λ t. rw t (record { answer = refl; tables = w }))
        (λ t. cases (same bytes reply) (λ u. rw (t, u) (rest b c w clock frames reply l)) (λ u. rw (t, u) (record { answer = refl; tables = w })))
    turn (Some (Purge bound)) k = rest _ _ (purge-alike config other b c w clock bound.0 l).tables clock frames reply l
    turn (Some (Rule forcing)) k = rest b c w clock frames reply l
    turn None k = record { answer = refl; tables = w }

walks-alike : (config other : Config) (ps : List Placed) → AllShort ps → WalksAlike config other ps
walks-alike config other [] k b c w clock frames reply l = record { answer = refl; tables = w }
walks-alike config other (p ∷ ps) k b c w clock frames reply l =
    turn config other ps (walks-alike config other ps k.1.1) b c w clock frames reply l p.at p.bytes k.0 p.field k.1.0

-- ---- a trace that has opened, and any other
mode-range : (n : ℕ) → (n ≡ 1) ⊎ (n ≡ 2) → (1 ≤ n) × (n ≤ 2)
mode-range n (inl e) = (omega (arith, e), omega (arith, e))
mode-range n (inr e) = (omega (arith, e), omega (arith, e))

module _ (config other : Config) (b trace : List ℕ) (y : Bytes trace) where
  abbrev ruled : Config
  ruled = ruled_by config trace

  abbrev other-ruled : Config
  other-ruled = ruled_by other trace

  -- the trace has one rule of force for both
  opened : length b ≡ 42000 → WellOpened trace → EndsAlike ruled other-ruled (replayed config b trace) (replayed other b trace)
  unfolding replayed
  opened n o =
      let mode = num trace 0 1 in
      let vbucket = num trace 1 2 in
      let t = fresh 32 1 mode vbucket in
      let state : (1 ≤ 1) × (1 ≤ 4) = (omega arith, omega arith) in
      let w = fresh-twin ruled other-ruled refl 32 1 mode vbucket (omega arith) (omega arith) state (mode-range mode o.mode) (num-below trace 1 2 y) in
      let fields = all_short trace y 3 (fields_in trace) (fields-spelt trace) in
      rw (eq-eqb (length b) 42000 n, opening-read trace o)
      (walks-alike ruled other-ruled (fields_in trace) fields (table_bytes t) (table_bytes t) (twins ruled other-ruled t t w) 0 0 [] (omega arith))

  -- which tables are the same doesn't depend on a rule of force
  by-engine : (x z : List ℕ) → SameTable ruled other-ruled x z → SameTable config other x z
  unfolding sound_by
  by-engine x z w = record {
    documents = w.documents;
    head = w.head;
    size = w.size;
    free = w.free;
    undamaged = w.undamaged;
    other-undamaged = w.other-undamaged;
  }

  answer-alike : length b ≡ 42000 → WellOpened trace ⊎ (opening_of trace ≡ None) → (replayed config b trace).answer ≡ (replayed other b trace).answer
  answer-alike n (inl o) = (opened n o).answer
  answer-alike n (inr e) = (unopened config b trace n e).0 ∙ sym (unopened other b trace n e).0

pub replays-alike : ReplaysAlike
replays-alike config other b trace y = record {
  answer =
      cases (eqb (length b) 42000) (λ t. answer-alike config other b trace y (eqb-true _ _ t) (opened-or-not trace))
      (λ t. let f = eqb-false (length b) 42000 t in
      (other-size-refused config b trace f).0 ∙ sym (other-size-refused other b trace f).0);
  tables = λ n o. by-engine config other b trace y (replayed config b trace).table (replayed other b trace).table
      (same-table (ruled_by config trace) (ruled_by other trace) (replayed config b trace).table (replayed other b trace).table (opened config other b trace y n o).tables);
}
