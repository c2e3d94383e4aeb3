-- The worked list of specs/Worked.antt, computed from bytes to bytes.
use Prim.Native.Nat.{◌^◌, ◌<◌}
use mathlib.Core.Path.{◌≡◌, refl}
use mathlib.Core.Bool.{Bool, true, false, ◌&&◌}
use mathlib.Core.List.{List, [], ◌∷◌}
use lib.Dec.{ltb}
use native.Mathlib.Omega.{arith}
use borrow.Author.Tests.{ltb-true}
use Rattle.keys.specs.Keys.{side_of}
use Rattle.engine.specs.Config.{config_for}
use Rattle.octets.specs.Parts.{Bytes, written}
use Rattle.octets.specs.BigEndian.{be, bytes_of}
use Rattle.octets.specs.Compare.{zeros, same}
use Rattle.octets.proofs.Choices.{both}
use Rattle.digits.specs.Decimal.{number_of}
use Rattle.numbers.specs.Expiry.{expired, passes, absolute}
use Rattle.document.specs.Stored.{live, gone_doc}
use Rattle.shape.specs.Shapes.{shape_of}
use Rattle.header.specs.Header.{header_of, header_bytes}
use Rattle.rules.specs.Rules.{count_of, keeps_rules, is_forced, forces, status}
use Rattle.request.specs.Reading.{gate_of, key_span, frame_status}
use Rattle.commands.specs.Rules.{rule_of, tests_of, first_status, first_failure}
use Rattle.effects.specs.Done.{done_of}
use Rattle.decision.specs.Decision.{decision}
use Rattle.decode.specs.Decode.{request_of}
use Rattle.listing.specs.Listing.{listing}
use Rattle.rows.specs.Row.{slot_of, row_of, row_bytes}
use Rattle.rows.specs.Table.{table_of, table_bytes}
use Rattle.rows.specs.RowRules.{row_sound}
use Rattle.plain.specs.Damage.{sound}
use Rattle.ordered.specs.Damage.{sound_ordered}
use Rattle.engines.specs.Damage.{sound_by}
use Rattle.owning.specs.Owner.{make_outcome, made, read_of, purge_of, purged_bytes, activate_of, activated_bytes}
use Rattle.serving.specs.Reply.{reply_bytes}
use Rattle.serving.specs.Serve.{gate_all, frame_table, frame_reply, served, served_table, served_reply}
use Rattle.tally.specs.Counts.{counted_of}
use Rattle.run.specs.Run.{run_end, ran_of}
use Rattle.promises.specs.Calls.{Call}
use Rattle.promises.specs.Clock.{Serve, Purge, Read, Activate}
use Rattle.promises.proofs.Worked.{below, below-bytes}
use Rattle.agreement.specs.Calls.{AnyCall, Make, Run, One, GivenAny, AllGivenAny}
use Rattle.agreement.specs.Worked.{worked_calls, PlainLeaves, OrderedLeaves, WorkedAlike}
use Rattle.agreement.proofs.Agreement.{engines-agree}

-- ---- that a call is given bytes, a clock of 32 bits and a vbucket of 16 is computed
abbrev framed : Call → Bool
framed c = below c.received && ltb c.clock (2 ^ 32)

framed-right : (c : Call) → framed c ≡ true → Bytes c.received × (c.clock < 2 ^ 32)
framed-right c e = let p = both (below c.received) (ltb c.clock (2 ^ 32)) e in (below-bytes c.received p.0, ltb-true c.clock (2 ^ 32) p.1)

abbrev right : AnyCall → Bool
right (Make n state mode vbucket) = ltb vbucket 65536
right (Run c) = framed c
right (One (Serve c)) = framed c
right (One (Purge clock bound)) = ltb clock (2 ^ 32)
right (One (Read clock key)) = ltb clock (2 ^ 32)
right (One Activate) = true

right-given : (x : AnyCall) → right x ≡ true → GivenAny x
right-given (Make n state mode vbucket) e = ltb-true vbucket 65536 e
right-given (Run c) e = framed-right c e
right-given (One (Serve c)) e = framed-right c e
right-given (One (Purge clock bound)) e = ltb-true clock (2 ^ 32) e
right-given (One (Read clock key)) e = ltb-true clock (2 ^ 32) e
right-given (One Activate) e = tt

abbrev all_right : List AnyCall → Bool
all_right [] = true
all_right (x ∷ xs) = right x && all_right xs

all-given : (xs : List AnyCall) → all_right xs ≡ true → AllGivenAny xs
all-given [] e = tt
all-given (x ∷ xs) e = let p = both (right x) (all_right xs) e in (right-given x p.0, all-given xs p.1)

-- ---- on each engine
gives : PlainLeaves × OrderedLeaves
unfolding written be bytes_of zeros same number_of expired passes absolute live gone_doc shape_of header_of header_bytes status gate_of key_span frame_status
    rule_of tests_of first_status first_failure decision done_of request_of keeps_rules forces is_forced slot_of row_of row_bytes table_of table_bytes row_sound sound sound_ordered sound_by
    side_of count_of listing make_outcome made read_of purge_of purged_bytes activate_of activated_bytes reply_bytes gate_all frame_table frame_reply served served_table served_reply counted_of run_end ran_of
gives = (record { answers = refl; stands = refl; after = refl }, record { answers = refl; stands = refl; after = refl })

pub worked : WorkedAlike
worked =
    let g = all-given worked_calls refl in
    record {
      given = g;
      agree =
          engines-agree (config_for true) (config_for false) refl 3 1 1 0 _ worked_calls
          (omega arith) (omega arith) (omega arith, omega arith) (omega arith, omega arith) (omega arith) g;
      plain = gives.0;
      ordered = gives.1;
    }
