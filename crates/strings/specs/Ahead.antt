-- What a decoder is still to hand out.
use Rattle.std.specs.Prelude.{ℕ, ◌+◌, ◌-◌, List, ◌++◌}
use Rattle.utf8.specs.Bytes.{le}
use Rattle.strings.specs.Spans.{decode_at}
use Rattle.strings.specs.declared.decoder.Decoder.{Decoder}

-- the bytes that are still to come: those of a character that is begun, then what the rest of the string stands for
unfoldable pub ahead : Decoder → List ℕ
unfolding le decode_at
ahead d = le d.left d.word ++ decode_at d.text.now d.at d.end

-- how far a decoder is from its end; falls with each byte that is handed out
unfoldable pub away : Decoder → ℕ
away d = (d.end - d.at) + d.left
