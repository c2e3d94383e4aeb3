-- Where the parts of a frame stand, counted from its start: header, extras, key, value, one after the other; "24 + body" is its length.
use Rattle.std.specs.Prelude.{◌+◌}
use Rattle.header.specs.declared.Header.{Header}
use Rattle.header.specs.declared.Layout.{Layout}

abbrev pub layout_of : Header → Layout
layout_of h = record { extras = 24; key = 24 + h.extlen; value = 24 + h.extlen + h.keylen; end = 24 + h.body }
