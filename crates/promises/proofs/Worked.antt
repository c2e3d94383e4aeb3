-- The worked list meets the premises and gives what specs/Worked.antt says.
use Rattle.std.specs.Prelude.{is_some}
use Prim.Native.Nat.{ℕ, ◌^◌}
use mathlib.Core.Path.{◌≡◌, refl, sym, ap, ◌∙◌}
use mathlib.Core.Bool.{Bool, true, cond, ◌&&◌, ◌||◌}
use mathlib.Core.List.{List, [], ◌∷◌, map}
use lib.ListN.{length}
use lib.Dec.{eqb, leb, ltb}
use native.Mathlib.Omega.{arith}
use borrow.Author.Tests.{leb-true, ltb-true}
use Rattle.keys.specs.Keys.{side_of}
use Rattle.engine.specs.declared.Config.{Config}
use Rattle.engine.specs.declared.EngineKind.{EngineKind}
use Rattle.engine.specs.declared.EngineKind.TheVariants.{Plain, Ordered}
use Rattle.octets.specs.Parts.{Bytes, written}
use Rattle.octets.specs.BigEndian.{be, bytes_of}
use Rattle.octets.specs.Compare.{zeros, same}
use Rattle.octets.proofs.Choices.{both}
use Rattle.octets.proofs.Lists.{bytes-cons}
use Rattle.numbers.specs.declared.Mode.{Mode}
use Rattle.numbers.specs.declared.Numbers.{Numbers}
use Rattle.numbers.specs.Order.{greater}
use Rattle.document.specs.Documents.{Key, Doc}
use Rattle.document.specs.Stored.{accepted}
use Rattle.shape.specs.Shapes.{among, shape_of}
use Rattle.header.specs.Header.{header_of}
use Rattle.with_meta.specs.WithMeta.{with_meta}
use Rattle.with_meta.specs.Section.{section_ok}
use Rattle.rules.specs.Rules.{status, keeps_rules, forces, is_forced, meta_size}
use Rattle.request.specs.Reading.{Gate, Whole, gate_of, extras_span, key_span, frame_status, bytes_in}
use Rattle.commands.specs.Rules.{rule_of, tests_of, first_status, first_failure}
use Rattle.effects.specs.Done.{done_of}
use Rattle.decision.specs.Decision.{decision}
use Rattle.decode.specs.Decode.{command_of, bare_value, request_of}
use Rattle.rows.specs.Row.{slot_of, row_of, row_bytes}
use Rattle.rows.specs.Table.{table_of, table_bytes}
use Rattle.rows.specs.Find.{free_rows}
use Rattle.plain.specs.Damage.{sound}
use Rattle.ordered.specs.Damage.{sound_ordered}
use Rattle.engines.specs.Damage.{sound_by}
use Rattle.rows.specs.RowRules.{size_ok, head_ok, used_ok, row_sound}
use Rattle.serving.specs.Serve.{gate_all, decision_on, frame_effect, frame_table, served, served_table}
use Rattle.promises.proofs.Candidates.{Holds, found_all, for-all, candidates-all}
use Rattle.merge.specs.Writes.{◌∈◌, for, new_keys}
use Rattle.merge.specs.Merge.{All}
use Rattle.promises.specs.Calls.{Call}
use Rattle.promises.specs.Merge.{MergingCall, Premises, candidates, doc_at, writes, options_for, mode_at}
use Rattle.promises.specs.Worked.{table, calls, Worked}
use Rattle.promises.proofs.Demand3.{merge-on-bytes}

-- ---- what is computed of a call, and what a merging one says
abbrev pub below : List ℕ → Bool
below [] = true
below (x ∷ xs) = ltb x 256 && below xs

pub below-bytes : (xs : List ℕ) → below xs ≡ true → Bytes xs
below-bytes [] e = λ k. omega arith
below-bytes (x ∷ xs) e = let p = both (ltb x 256) (below xs) e in bytes-cons x xs (ltb-true x 256 p.0) (below-bytes xs p.1)

record Facts : Type 0 where
  bytes : Bool
  clock : Bool
  room : Bool
  gate : Gate
  opcode : Bool
  form : ℕ
  options : ℕ
  vbucket : ℕ
  cas : ℕ

abbrev facts : Call → Facts
facts c =
    let h = header_of c.received in
    record {
      bytes = below c.received;
      clock = ltb c.clock (2 ^ 32);
      room = leb 1302 (length c.reply);
      gate = gate_of c.received;
      opcode = among h.opcode (0xa2 ∷ 0xa3 ∷ 0xa8 ∷ 0xa9 ∷ []);
      form = frame_status c.received h;
      options = (with_meta (bytes_in c.received (extras_span h))).options;
      vbucket = h.vbucket;
      cas = h.cas.0;
    }

abbrev right : Mode → ℕ → Call → Facts
right m v c = record { bytes = true; clock = true; room = true; gate = Whole (header_of c.received); opcode = true; form = 0; options = options_for m; vbucket = v; cas = 0 }

right-merging : (m : Mode) (v : ℕ) (c : Call) → facts c ≡ right m v c → MergingCall m v c
right-merging m v c e = record {
  bytes = below-bytes c.received (ap (λ (x : Facts). x.bytes) e);
  clock = ltb-true c.clock (2 ^ 32) (ap (λ (x : Facts). x.clock) e);
  room = leb-true 1302 (length c.reply) (ap (λ (x : Facts). x.room) e);
  whole = ap (λ (x : Facts). x.gate) e;
  opcode = ap (λ (x : Facts). x.opcode) e;
  form = ap (λ (x : Facts). x.form) e;
  options = ap (λ (x : Facts). x.options) e;
  here = ap (λ (x : Facts). x.vbucket) e;
  header-cas = ap (λ (x : Facts). x.cas) e;
}

all-merging : (m : Mode) (v : ℕ) (cs : List Call) → map facts cs ≡ map (right m v) cs → All (MergingCall m v) cs
all-merging m v [] e = tt
all-merging m v (c ∷ cs) e =
    let p : facts c ≡ right m v c = cc in
    let q : map facts cs ≡ map (right m v) cs = cc in
    (right-merging m v c p, all-merging m v cs q)

-- here the numbers say the rest: CAS 41 and 61 are the tombstones
abbrev buried : ℕ → Bool
buried cas = eqb cas 41 || eqb cas 61

abbrev told : Numbers → Doc
told n = record { tomb = buried n.cas.0; value = cond (buried n.cas.0) [] (n.cas.0 ∷ []); numbers = n }

abbrev Told : Doc → Type 0
Told d = d ≡ told d.numbers

module _ (config : Config) (b : List ℕ) (cs : List Call) where
  -- the premises, as far as they are computed
  record Computed : Type 0 where
    bytes : below b ≡ true
    undamaged : sound_by config b ≡ true
    active : (table_of b).head.state ≡ 1
    merging : map facts cs ≡ map (right (mode_at b) (table_of b).head.vbucket) cs
    room : leb (new_keys (λ k. is_some (doc_at b k)) (writes cs)) (free_rows (table_of b).rows) ≡ true
    rows : All (Holds Told) (table_of b).rows
    sent : All (λ w. Told w.doc) (writes cs)

  module _ (c : Computed) where
    all_told : (k : Key) (d : Doc) → d ∈ candidates b cs k → Told d
    all_told k d h =
        candidates-all Told (doc_at b k) (for k (writes cs)) d
        (λ e s. found_all Told (table_of b).rows k e c.rows s)
        (λ r. for-all Told (writes cs) k d c.sent r)
        h

    premises : Premises config b cs
    premises = record {
      bytes = below-bytes b c.bytes;
      undamaged = c.undamaged;
      active = c.active;
      merging = all-merging (mode_at b) (table_of b).head.vbucket cs c.merging;
      room = leb-true (new_keys (λ k. is_some (doc_at b k)) (writes cs)) (free_rows (table_of b).rows) c.room;
      unique = λ k x y p q e. all_told k x p ∙ ap told e ∙ sym (all_told k y q);
    }

-- ---- computed from bytes to bytes, on both engines, by either rule of force
abbrev ruled : EngineKind → Bool → Config
ruled engine forcing = record { engine = engine; forcing = forcing }

computed : (engine : EngineKind) (forcing : Bool) → Computed (ruled engine forcing) (table 1) (calls 1) × Computed (ruled engine forcing) (table 2) (calls 2)
unfolding be bytes_of zeros same among shape_of header_of with_meta section_ok status gate_of key_span frame_status command_of bare_value meta_size slot_of row_of row_bytes table_of
    table_bytes size_ok head_ok used_ok row_sound sound sound_ordered sound_by side_of
computed Plain forcing = (
  record { bytes = refl; undamaged = refl; active = refl; merging = refl; room = refl; rows = search; sent = search },
  record { bytes = refl; undamaged = refl; active = refl; merging = refl; room = refl; rows = search; sent = search },
)
computed Ordered forcing = (
  record { bytes = refl; undamaged = refl; active = refl; merging = refl; room = refl; rows = search; sent = search },
  record { bytes = refl; undamaged = refl; active = refl; merging = refl; room = refl; rows = search; sent = search },
)

plain-worked : (forcing : Bool) → Worked (ruled Plain forcing)
unfolding written be bytes_of zeros same greater accepted shape_of header_of with_meta section_ok status gate_of key_span frame_status rule_of tests_of
    first_status first_failure decision done_of request_of keeps_rules forces is_forced slot_of row_of row_bytes table_of table_bytes size_ok head_ok used_ok row_sound
    sound sound_ordered sound_by side_of gate_all decision_on frame_effect frame_table served served_table
plain-worked forcing = record {
  by-revision = record {
    premises = premises (ruled Plain forcing) (table 1) (calls 1) (computed Plain forcing).0;
    merged = merge-on-bytes (ruled Plain forcing) (table 1) (calls 1) (premises (ruled Plain forcing) (table 1) (calls 1) (computed Plain forcing).0);
    statuses = refl;
    after = refl;
    hello-ends = refl;
    mykey-ends = refl;
  };
  last-write = record {
    premises = premises (ruled Plain forcing) (table 2) (calls 2) (computed Plain forcing).1;
    merged = merge-on-bytes (ruled Plain forcing) (table 2) (calls 2) (premises (ruled Plain forcing) (table 2) (calls 2) (computed Plain forcing).1);
    statuses = refl;
    after = refl;
    hello-ends = refl;
    mykey-ends = refl;
  };
}

ordered-worked : (forcing : Bool) → Worked (ruled Ordered forcing)
unfolding written be bytes_of zeros same greater accepted shape_of header_of with_meta section_ok status gate_of key_span frame_status rule_of tests_of
    first_status first_failure decision done_of request_of keeps_rules forces is_forced slot_of row_of row_bytes table_of table_bytes size_ok head_ok used_ok row_sound
    sound sound_ordered sound_by side_of gate_all decision_on frame_effect frame_table served served_table
ordered-worked forcing = record {
  by-revision = record {
    premises = premises (ruled Ordered forcing) (table 1) (calls 1) (computed Ordered forcing).0;
    merged = merge-on-bytes (ruled Ordered forcing) (table 1) (calls 1) (premises (ruled Ordered forcing) (table 1) (calls 1) (computed Ordered forcing).0);
    statuses = refl;
    after = refl;
    hello-ends = refl;
    mykey-ends = refl;
  };
  last-write = record {
    premises = premises (ruled Ordered forcing) (table 2) (calls 2) (computed Ordered forcing).1;
    merged = merge-on-bytes (ruled Ordered forcing) (table 2) (calls 2) (premises (ruled Ordered forcing) (table 2) (calls 2) (computed Ordered forcing).1);
    statuses = refl;
    after = refl;
    hello-ends = refl;
    mykey-ends = refl;
  };
}

worked-in : (engine : EngineKind) (forcing : Bool) → Worked (ruled engine forcing)
worked-in Plain forcing = plain-worked forcing
worked-in Ordered forcing = ordered-worked forcing

pub worked : (config : Config) → Worked config
worked config = worked-in config.engine config.forcing
