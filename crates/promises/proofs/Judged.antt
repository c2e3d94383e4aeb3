-- The judged examples, computed from bytes to bytes.
use mathlib.Core.Path.{refl}
use mathlib.Core.Bool.{Bool}
use Rattle.keys.specs.Keys.{side_of}
use Rattle.engine.specs.declared.Config.{Config}
use Rattle.engine.specs.declared.EngineKind.{EngineKind}
use Rattle.engine.specs.declared.EngineKind.TheVariants.{Plain, Ordered}
use Rattle.octets.specs.Parts.{pasted, written}
use Rattle.octets.specs.BigEndian.{be_from, be, bytes_of}
use Rattle.octets.specs.Compare.{zeros, same}
use Rattle.digits.specs.Decimal.{digits, digits_in, number_of, number_from, all_digits, is_digit, value_from}
use Rattle.numbers.specs.Order.{greater, above, lead, second}
use Rattle.numbers.specs.Expiry.{seconds_left, expired, passes, absolute}
use Rattle.document.specs.Stored.{accepted, live}
use Rattle.shape.specs.Shapes.{commands, unbuilt, look_up, among, shape_of}
use Rattle.header.specs.Header.{header_of, front_bytes, middle_bytes, back_bytes, header_bytes}
use Rattle.with_meta.specs.WithMeta.{present_numbers, carried_numbers, options_of, section_of, with_meta}
use Rattle.with_meta.specs.Section.{field_ok, field_size, walk, fields_ok, section_ok}
use Rattle.with_meta.specs.FieldRules.{numbers_ok, body_ok, with_meta_ok}
use Rattle.rules.specs.Rules.{form_ok, meta_size, field_rules_ok, judged, status, keeps_rules, forces, is_forced}
use Rattle.request.specs.Reading.{gate_of, extras_span, key_span, value_span, frame_status}
use Rattle.commands.specs.Rules.{rule_of, tests_of, first_status, first_failure}
use Rattle.effects.specs.Done.{done_of}
use Rattle.decision.specs.Decision.{decision}
use Rattle.decode.specs.Decode.{plain_of, counter_of, meta_command, command_of, bare_value, request_of}
use Rattle.rows.specs.Row.{slot_of, size_bytes, short_bytes, long_bytes, slot_bytes, doc_of, key_of, row_of, slot_for, used_bytes, row_bytes}
use Rattle.rows.specs.Table.{head_of, table_of, head_bytes, table_bytes}
use Rattle.plain.specs.Damage.{sound}
use Rattle.ordered.specs.Damage.{sound_ordered}
use Rattle.engines.specs.Damage.{sound_by}
use Rattle.rows.specs.RowRules.{size_ok, head_ok, used_ok, row_sound}
use Rattle.serving.specs.Reply.{reply_header, reply_bytes}
use Rattle.serving.specs.Serve.{gate_all, decision_on, frame_effect, frame_table, frame_reply, served, served_table, served_reply}
use Rattle.promises.specs.Judged.{Judged}

plain-judged : (forcing : Bool) → Judged (record { engine = Plain; forcing = forcing })
unfolding pasted written be_from be bytes_of zeros same digits digits_in number_of number_from all_digits is_digit value_from greater above lead second
    seconds_left expired passes absolute accepted live commands unbuilt look_up among shape_of header_of front_bytes middle_bytes back_bytes header_bytes present_numbers carried_numbers
    options_of section_of with_meta field_ok field_size walk fields_ok section_ok form_ok numbers_ok body_ok with_meta_ok meta_size field_rules_ok judged status
    gate_of extras_span key_span value_span frame_status rule_of tests_of first_status first_failure decision done_of plain_of counter_of meta_command command_of
    bare_value request_of keeps_rules forces is_forced slot_of size_bytes short_bytes long_bytes slot_bytes doc_of key_of row_of slot_for used_bytes row_bytes head_of table_of head_bytes
    table_bytes size_ok head_ok used_ok row_sound sound sound_ordered sound_by side_of reply_header reply_bytes gate_all decision_on frame_effect frame_table frame_reply served served_table
    served_reply
plain-judged forcing = refl

ordered-judged : (forcing : Bool) → Judged (record { engine = Ordered; forcing = forcing })
unfolding pasted written be_from be bytes_of zeros same digits digits_in number_of number_from all_digits is_digit value_from greater above lead second
    seconds_left expired passes absolute accepted live commands unbuilt look_up among shape_of header_of front_bytes middle_bytes back_bytes header_bytes present_numbers carried_numbers
    options_of section_of with_meta field_ok field_size walk fields_ok section_ok form_ok numbers_ok body_ok with_meta_ok meta_size field_rules_ok judged status
    gate_of extras_span key_span value_span frame_status rule_of tests_of first_status first_failure decision done_of plain_of counter_of meta_command command_of
    bare_value request_of keeps_rules forces is_forced slot_of size_bytes short_bytes long_bytes slot_bytes doc_of key_of row_of slot_for used_bytes row_bytes head_of table_of head_bytes
    table_bytes size_ok head_ok used_ok row_sound sound sound_ordered sound_by side_of reply_header reply_bytes gate_all decision_on frame_effect frame_table frame_reply served served_table
    served_reply
ordered-judged forcing = refl

judged-in : (engine : EngineKind) (forcing : Bool) → Judged (record { engine = engine; forcing = forcing })
judged-in Plain forcing = plain-judged forcing
judged-in Ordered forcing = ordered-judged forcing

pub judged-examples : (config : Config) → Judged config
judged-examples config = judged-in config.engine config.forcing
