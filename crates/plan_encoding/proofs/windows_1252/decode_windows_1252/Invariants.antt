use Rattle.std.proofs.Common.{◌≡◌, ◌++◌, map, drop, encode_utf8_all}
use Rattle.std.specs.String.{string_bytes}
use Rattle.plan_encoding.specs.Windows1252.{windows_1252_char}
use Rattle.plan_encoding.proofs.windows_1252.decode_windows_1252.Given as goal

-- the text so far, with that of the bytes that are left, is the whole text
abbrev pub invariant-loop-byte : goal.invariant-loop-byte
invariant-loop-byte l =
    string_bytes l.text ++ encode_utf8_all (map windows_1252_char (drop l.byte-index l.bytes))
    ≡ encode_utf8_all (map windows_1252_char l.bytes)
