-- All commands and the owner's read take the same documents for live, a with-meta write compares a row that isn't, and a Get changes nothing but the kept clock.
use Prim.Native.Nat.{ℕ, ◌/◌, ◌%◌}
use mathlib.Core.Path.{◌≡◌, refl, sym, ap, subst, ◌∙◌}
use mathlib.Core.Bool.{Bool, true, false, not, ◌&&◌, ◌||◌}
use mathlib.Core.List.{List, ◌++◌}
use Rattle.std.specs.Prelude.{Option, Some, None}
use lib.Dec.{eqb}
use borrow.Author.Tests.{eq-eqb, ne_eqb, not-false, eqb-true}
use Rattle.engine.specs.declared.Config.{Config}
use Rattle.octets.specs.Parts.{Bytes}
use Rattle.octets.proofs.Choices.{cases, neither}
use Rattle.numbers.specs.Order.{greater}
use Rattle.numbers.specs.Expiry.{seconds_left, is_past, expired}
use Rattle.document.specs.Documents.{Key, Doc}
use Rattle.document.specs.Stored.{stored_of, live, accepted}
use Rattle.header.specs.declared.Header.{Header}
use Rattle.header.specs.Header.{header_of}
use Rattle.shape.specs.Shapes.{among, shape_of}
use Rattle.with_meta.specs.WithMeta.{with_meta}
use Rattle.request.specs.Reading.{Gate, Stop, Whole}
use Rattle.commands.specs.declared.Context.{Context}
use Rattle.commands.specs.declared.Instruction.{Instruction}
use Rattle.commands.specs.declared.MetaKind.{MetaKind}
use Rattle.commands.specs.declared.Command.{Command}
use Rattle.commands.specs.declared.Command.TheVariants.{Get}
use Rattle.commands.specs.Rules.{rule_of, tests_of, guard, status_by}
use Rattle.effects.specs.declared.Done.{Done}
use Rattle.effects.specs.Done.{done_of}
use Rattle.decision.specs.Decision.{decision}
use Rattle.decision.specs.Decide.{instruction_of}
use Rattle.decode.specs.Decode.{meta_command, command_of, request_of}
use Rattle.rows.specs.Row.{Row}
use Rattle.rows.specs.Find.{find_row}
use Rattle.rows.specs.Table.{Table, table_of, table_at, clock_at, table_bytes}
use Rattle.engines.specs.Damage.{sound_by}
use Rattle.owning.specs.Owner.{shown, read_of}
use Rattle.serving.specs.Serve.{reaches_decision, context_on, decision_on, frame_effect, frame_table, gate_all, answer_by, table_by, served, served_table}
use Rattle.serving.proofs.Change.{unchanged}
use Rattle.serving.proofs.Formed.{by_cond}
use Rattle.serving.proofs.Gated.{was-open}
use Rattle.promises.specs.Merge.{doc_at, mode_at}
use Rattle.promises.specs.Kept.{later_at, kept_by}
use Rattle.promises.specs.Expiry.{opcode, header_cas, extras_in, key_in, gets, adds, replaces, deletes, with_metas, touches, joins, keyed, needs_live, told_live, tells, read_live}
use Rattle.promises.specs.Expiry.{NotLive, Reaches, OneLiveness, LiveIsFound, DeadIsCompared, GetKeeps}
use Rattle.promises.specs.Clock.{read_only}
use Rattle.promises.proofs.Kept.{raised-bytes}
use Rattle.promises.proofs.Asks.{Each, at-opcode, tested, ask, reads, carries, added}
use Rattle.promises.proofs.Liveness.{and-false, or-false, dead-at, alive-at, status, answers, avoids, answered, without}
use Rattle.promises.proofs.Dead.{seen, command, rule, instruction, tests, needs-keyed, sought, unguarded, not-missing, not-unstored, join-joins}
use Rattle.promises.proofs.Dead.{without-unstored, without-missing, without-conflict, is-unstored, is-missing, is-conflict}

-- ---- what the owner's read tells
shown-live : (rows : List Row) (clock : ℕ) (k : Key) (d : Doc) → read_live (shown rows clock k (Some d)) ≡ live (stored_of (Some d)) clock
unfolding live expired
shown-live rows clock k d =
    let past = is_past (seconds_left d.numbers.expiry clock) in
    cases d.tomb (λ t. rw t) (λ t. cases past (λ p. rw (t, p)) (λ p. rw (t, p)))

shown-none : (clock : ℕ) → live (stored_of None) clock ≡ false
unfolding live
shown-none clock = refl

read-row : (rows : List Row) (clock : ℕ) (k : Key) (o : Option Doc) → read_live (shown rows clock k o) ≡ live (stored_of o) clock
read-row rows clock k None = sym (shown-none clock)
read-row rows clock k (Some d) = shown-live rows clock k d

read_live-of : (config : Config) (b : List ℕ) (clock : ℕ) (k : Key) → sound_by config b ≡ true → read_live (read_of config b clock k) ≡ live (stored_of (doc_at b k)) (clock_at (table_of b) clock)
unfolding read_of
read_live-of config b clock k e = rw e (read-row (table_of b).rows (clock_at (table_of b) clock) k (doc_at b k))

-- ---- what a frame's status tells
add-keyed : (n : ℕ) → among n adds ≡ true → among n keyed ≡ true
unfolding among
add-keyed n e = tested (λ x. among x keyed) n adds refl e

module _ (config : Config) (b : List ℕ) (clock : ℕ) (s : List ℕ) where
  abbrev lives : Bool
  lives = live (stored_of (doc_at b (key_in s))) (clock_at (table_of b) clock)

  found : lives ≡ true → (tests config b clock s).missing ≡ false
  unfolding tests_of
  found t = rw t (and-false ((rule config b clock s).needs || guard (instruction config b clock s) (rule config b clock s)))

  not_found : needs_live s ≡ true → lives ≡ false → (tests config b clock s).missing ≡ true
  unfolding tests_of
  not_found e t = rw (sought config b clock s e, t)

  -- a join
  stored : lives ≡ true → (tests config b clock s).unstored ≡ false
  unfolding tests_of
  stored t = rw t (and-false (rule config b clock s).joins)

  not-stored : among (opcode s) joins ≡ true → lives ≡ false → (tests config b clock s).unstored ≡ true
  unfolding tests_of
  not-stored e t = rw (join-joins config b clock s e, t)

  -- an Add without a header CAS
  contest : (rule config b clock s).beaten ≡ false → (rule config b clock s).fresh ≡ true → header_cas s ≡ 0 → (x : Bool) → lives ≡ x → (tests config b clock s).conflict ≡ x
  unfolding tests_of
  contest u f z true t = rw (u, f, unguarded config b clock s z, t)
  contest u f z false t = rw (u, f, unguarded config b clock s z, t)

  module _ (room : ℕ) (r : Reaches config b clock s room) where
    needed-told : needs_live s ≡ true → (n : ℕ) → status config b clock s ≡ n → not (eqb n 0x01) ≡ lives
    needed-told e n z =
        cases lives
        (λ t. rw (t, ne_eqb n 0x01 (λ y. without 0x01 _ (without-missing config b clock s (found t)) (z ∙ y))))
        (λ t. rw (t, eq-eqb n 0x01 (sym z ∙ is-missing config b clock s r.earlier (not-unstored config b clock s (needs-keyed s e)) (not_found e t))))

    joined-told : among (opcode s) joins ≡ true → (n : ℕ) → status config b clock s ≡ n → not (eqb n 0x05) ≡ lives
    joined-told e n z =
        cases lives
        (λ t. rw (t, ne_eqb n 0x05 (λ y. without 0x05 _ (without-unstored config b clock s (stored t)) (z ∙ y))))
        (λ t. rw (t, eq-eqb n 0x05 (sym z ∙ is-unstored config b clock s r.earlier (not-stored e t))))

    added-told : among (opcode s) adds ≡ true → header_cas s ≡ 0 → (n : ℕ) → status config b clock s ≡ n → eqb n 0x02 ≡ lives
    unfolding request_of
    added-told e c n z =
        let (needless, (unbeaten, fresh)) = added (seen config b clock s) (extras_in s) (opcode s) e in
        cases lives
        (λ t.
        let first = is-conflict config b clock s r.earlier (not-unstored config b clock s (add-keyed (opcode s) e)) (not-missing config b clock s needless c) (contest unbeaten fresh c true t) in
        rw (t, eq-eqb n 0x02 (sym z ∙ first)))
        (λ t. rw (t, ne_eqb n 0x02 (λ y. without 0x02 _ (without-conflict config b clock s (contest unbeaten fresh c false t)) (z ∙ y))))

-- where a document isn't needed, an Add has no header CAS
add-bare : (s : List ℕ) → among (opcode s) adds ≡ true → needs_live s ≡ false → header_cas s ≡ 0
add-bare s e f =
    let (_, g) = neither (among (opcode s) (gets ++ (replaces ++ (deletes ++ touches)))) _ f in
    let (h, _) = neither (among (opcode s) keyed && not (eqb (header_cas s) 0)) _ g in
    eqb-true (header_cas s) 0 (not-false (eqb (header_cas s) 0) (rw (add-keyed (opcode s) e) at h))

told : (config : Config) (b : List ℕ) (clock : ℕ) (s : List ℕ) (room n : ℕ) → Reaches config b clock s room → tells s ≡ true → status config b clock s ≡ n → told_live s n ≡ lives config b clock s
told config b clock s room n r e z =
    cases (among (opcode s) joins)
    (λ j. rw j (joined-told config b clock s room r j n z))
    (λ j. cases (needs_live s)
    (λ t. rw (j, t) (needed-told config b clock s room r t n z))
    (λ t. let a : among (opcode s) adds ≡ true = rw (j, t) at e in rw (j, t) (added-told config b clock s room r a (add-bare s a t) n z)))

pub one-liveness : (config : Config) → OneLiveness config
one-liveness config b clock s room n r e (len, a) =
    told config b clock s room n r e (answered config b clock s room n _ len a) ∙ sym (read_live-of config b clock (key_in s) r.undamaged)

pub live-is-found : (config : Config) → LiveIsFound config
live-is-found config b clock s room d r at l e =
    let t : lives config b clock s ≡ true = rw at (alive-at b clock d l) in
    let missed = avoids config b clock s room 0x01 (without-missing config b clock s (found config b clock s t)) in
    let unstored = avoids config b clock s room 0x05 (without-unstored config b clock s (stored config b clock s t)) in
    ((missed, unstored), read_live-of config b clock (key_in s) r.undamaged ∙ t)

-- ---- with-meta
module _ (config : Config) (b : List ℕ) (clock : ℕ) (s : List ℕ) (d : Doc) (at : doc_at b (key_in s) ≡ Some d) (n : NotLive (later_at b clock) (Some d)) (c : header_cas s ≡ 0)
    (k : MetaKind) (asks : command config b clock s ≡ meta_command k (with_meta (extras_in s)))
    (unforced : eqb ((with_meta (extras_in s)).options % 2) 1 ≡ false) (unskipped : eqb ((with_meta (extras_in s)).options / 8 % 2) 1 ≡ false) where
  abbrev wins : Bool
  wins = greater (mode_at b) (with_meta (extras_in s)).numbers d.numbers

  needless : (rule config b clock s).needs ≡ false
  unfolding rule_of meta_command
  needless = rw asks

  beaten : (rule config b clock s).beaten ≡ not wins
  unfolding rule_of meta_command accepted
  beaten = rw (asks, unforced, unskipped, at)

  unfound : lives config b clock s ≡ false
  unfound = rw at (dead-at b clock (Some d) n)

  compared : (tests config b clock s).conflict ≡ not wins
  unfolding tests_of
  compared = rw (beaten, unguarded config b clock s c, unfound, and-false (rule config b clock s).fresh) (or-false (not wins))

meta-keyed : (n : ℕ) → among n with_metas ≡ true → among n keyed ≡ true
unfolding among
meta-keyed n e = tested (λ x. among x keyed) n with_metas refl e

pub dead-is-compared : (config : Config) → DeadIsCompared config
unfolding request_of
dead-is-compared config b clock s room d r at n e c unforced unskipped =
    let (k, asks) = carries (seen config b clock s) (extras_in s) (opcode s) e in
    let needs = not-missing config b clock s (needless config b clock s d at n c k asks unforced unskipped) c in
    let x = compared config b clock s d at n c k asks unforced unskipped in (
      λ f. answers config b clock s room r 0x02 (is-conflict config b clock s r.earlier (not-unstored config b clock s (meta-keyed (opcode s) e)) needs (x ∙ ap not f)),
      λ t. (avoids config b clock s room 0x01 (without-missing config b clock s needs), avoids config b clock s room 0x02 (without-conflict config b clock s (x ∙ ap not t))),
    )

-- ---- a command that stores nothing
module _ (c : Context) where
  abbrev pub Kept : Done → Type 0
  Kept x = (x.store ≡ None) × (x.head ≡ c.head)

  kept : (i : Instruction) (x : Command) → i.command ≡ x → Kept (done_of c x) → Kept (decision c i).done
  unfolding decision
  kept i x e k =
      by_cond Kept (eqb (status_by c i (rule_of c i.command)) 0) _ _
      (λ t. subst (λ (y : Command). Kept (done_of c y)) (sym e) k) (λ t. (refl, refl))

-- a frame that asks for one, on any table
module _ (config : Config) (t : Table) (clock : ℕ) (s : List ℕ) where
  abbrev sees : Context
  sees = context_on t clock (find_row t.rows (key_in s))

  frame-kept : (x : Command) → (request_of config.forcing s (header_of s)).command ≡ x → Kept sees (done_of sees x)
      → ((frame_effect config t clock s (header_of s)).store ≡ None) × ((frame_effect config t clock s (header_of s)).head ≡ t.head)
  unfolding frame_effect decision_on
  frame-kept x asks k =
      let (none-stored, same_head) = kept sees (instruction_of (request_of config.forcing s (header_of s))) x asks k in
      cases (reaches_decision s (header_of s)) (λ t. rw t (rw none-stored refl, same_head)) (λ t. rw t (refl, refl))

  -- so do a Get of any form, Noop, Version and Get Keys
  abbrev Reads : ℕ → Type 0
  Reads n = Kept sees (done_of sees (ask sees (extras_in s) n))

  pub read-only-keeps : among (opcode s) read_only ≡ true → (frame_effect config t clock s (header_of s)).store ≡ None
  unfolding shape_of command_of done_of request_of
  read-only-keeps e =
      let all : Each Reads read_only =
      ((refl, refl), ((refl, refl), ((refl, refl), ((refl, refl), ((refl, refl), ((refl, refl), ((refl, refl), tt))))))) in
      (frame-kept (ask sees (extras_in s) (opcode s)) refl (at-opcode Reads (opcode s) read_only all e)).0

module _ (config : Config) (b : List ℕ) (clock : ℕ) (s : List ℕ) (x : Command) (asks : command config b clock s ≡ x) (k : Kept (seen config b clock s) (done_of (seen config b clock s) x)) where
  abbrev t : Table
  t = table_at (table_of b) clock

  abbrev now : ℕ
  now = clock_at (table_of b) clock

  kept_by-gate : (room : ℕ) → Bytes b → (g : Gate) → gate_all config b room s ≡ g → table_by config b clock s g ≡ kept_by (answer_by config b clock s g) b clock
  unfolding frame_table
  kept_by-gate room y (Stop n need) o = refl
  kept_by-gate room y (Whole h) o =
      let w = was-open config b s room h o in
      let same = frame-kept config t now s x asks k in
      ap (λ (x : Header). frame_table config b clock s x) (sym w.frame.header)
      ∙ ap table_bytes (unchanged config t now s (header_of s) same.0 same.1) ∙ raised-bytes config b clock y w.undamaged

  pub keeps : (room : ℕ) → Bytes b → served_table config b clock s room ≡ kept_by (served config b clock s room) b clock
  unfolding served served_table
  keeps room y = kept_by-gate room y (gate_all config b room s) refl

got : (c : Context) (k : Bool) → Kept c (done_of c (Get k))
unfolding done_of
got c k = (refl, refl)

pub get_keeps : (config : Config) → GetKeeps config
unfolding request_of
get_keeps config b clock s room y e =
    let (k, asks) = reads (seen config b clock s) (extras_in s) (opcode s) e in
    keeps config b clock s (Get k) asks (got (seen config b clock s) k) room y
