-- Two whole frames that ask for the same are decided, answered and stored alike, also where they are served by two rules of force.
use Prim.Native.Nat.{ℕ}
use mathlib.Core.Path.{◌≡◌}
use mathlib.Core.Bool.{cond}
use mathlib.Core.List.{List}
use Rattle.header.specs.declared.Header.{Header}
use Rattle.request.specs.Reading.{frame_status, bytes_in, key_span}
use Rattle.decision.specs.Decision.{Decision, decision}
use Rattle.decision.specs.Decide.{instruction_of, effect_of}
use Rattle.engine.specs.declared.Config.{Config}
use Rattle.engine.specs.Engine.{store_row}
use Rattle.engines.specs.Engines.{engine_in}
use Rattle.rows.specs.Table.{Table, table_of, table_at, clock_at, table_bytes}
use Rattle.rows.specs.Find.{find_row}
use Rattle.serving.specs.Reply.{reply_shows, reply_bytes}
use Rattle.serving.specs.Serve.{context_on, refusal, asked_of, reaches_decision, decision_on, frame_effect, frame_table, frame_reply}

pub record SameAsk (config other : Config) (s s' : List ℕ) (h h' : Header) : Type 0 where
  pub engine : config.engine ≡ other.engine
  pub opcode : h.opcode ≡ h'.opcode
  pub opaque : h.opaque ≡ h'.opaque
  pub key : bytes_in s (key_span h) ≡ bytes_in s' (key_span h')
  pub reaches : reaches_decision s h ≡ reaches_decision s' h'
  pub status : frame_status s h ≡ frame_status s' h'
  pub request : asked_of config s h ≡ asked_of other s' h'

module _ (config other : Config) (s s' : List ℕ) (h h' : Header) (a : SameAsk config other s s' h h') where
  same-decision : (t : Table) (clock : ℕ) → decision_on config t clock s h ≡ decision_on other t clock s' h'
  unfolding decision_on
  same-decision t clock = λ i. cond (a.reaches i) (decision (context_on t clock (find_row t.rows (a.key i))) (instruction_of (a.request i))) (refusal t.head (a.status i))

  pub same_effect : (t : Table) (clock : ℕ) → frame_effect config t clock s h ≡ frame_effect other t clock s' h'
  unfolding frame_effect
  same_effect t clock = λ i. effect_of (a.request i) (find_row t.rows (a.key i)) (same-decision t clock i)

  module _ (b : List ℕ) (clock : ℕ) where
    abbrev t : Table
    t = table_at (table_of b) clock

    abbrev now : ℕ
    now = clock_at (table_of b) clock

    pub same-table : frame_table config b clock s h ≡ frame_table other b clock s' h'
    unfolding frame_table
    same-table = λ i. table_bytes (record { head = (same_effect t now i).head; rows = store_row (engine_in (a.engine i)) t.rows (a.key i) (same_effect t now i).store })

    pub same-reply : frame_reply config b clock s h ≡ frame_reply other b clock s' h'
    unfolding frame_reply
    same-reply = λ i.
        let x : Decision = same-decision t now i in
        reply_bytes (a.opcode i) (a.opaque i) x (a.key i) (reply_shows x.done.reply (table_of b).rows now (a.key i))
