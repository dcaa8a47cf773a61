-- Sample readings (docs/TRACE.md) that rules 3 and 4 of docs/RULES.md decide, by computation.
use Rattle.std.specs.Prelude.{◌≡◌, [], replicate, refl}
use Rattle.utf8.specs.Ascii.{ascii, is_digit}
use Rattle.json_text.specs.Tree.{str, num, arr, obj, no_items, ◌▸◌, ◌◂◌, empty, member, with}
use Rattle.json_text.specs.Machine.{reads, bad, too_deep, read, step, want_step, got_step, next_step, name_step, mant_step, nought_step, is_blank, is_hex, is_escape}

empty-text : read [] ≡ bad 0
unfolding read
empty-text = refl

tru : read (ascii "tru") ≡ bad 3
unfolding read ascii step want_step got_step next_step name_step mant_step nought_step is_blank is_digit is_hex is_escape
tru = refl

zero_one : read (ascii "01") ≡ bad 1
unfolding read ascii step want_step got_step next_step name_step mant_step nought_step is_blank is_digit is_hex is_escape
zero_one = refl

open-32 : read (replicate 32 91) ≡ bad 32
unfolding read ascii step want_step got_step next_step name_step mant_step nought_step is_blank is_digit is_hex is_escape ◌◂◌ with
open-32 = refl

open-33 : read (replicate 33 91) ≡ too_deep 32
unfolding read ascii step want_step got_step next_step name_step mant_step nought_step is_blank is_digit is_hex is_escape ◌◂◌ with
open-33 = refl

-- {"a":[-1.5e3, "\u00e9"]}
whole : read (ascii "{\"a\":[-1.5e3, \"\\u00e9\"]}")
    ≡ reads
    (obj 0 24 (member (record { place = 1; end = 4; raw = ascii "a" }) (arr 5 23 (num 6 12 (ascii "-1.5e3") ▸ str 14 22 (ascii "\\u00e9") ▸ no_items)) empty))
unfolding read ascii step want_step got_step next_step name_step mant_step nought_step is_blank is_digit is_hex is_escape ◌◂◌ with
whole = refl
