-- A byte more is written behind its space.
use Rattle.std.proofs.Common.{[], ◌≡◌, get_or, take, length, ◌<◌, rules, sym, ap, ◌∙◌}
use Rattle.std.proofs.Output.{has_written_append, has_written_of_eq}
use Rattle.std.proofs.lemmas.List.{take_more, get_or-take, flat_map_more}
use Rattle.std.specs.List.{flat_map}
use Rattle.text.specs.Shown.{byte_text}
use Rattle.text.proofs.print.BytesDisplay.fmt.Goals as goal

pub loop-byte-preserved : goal.loop-byte-preserved
loop-byte-preserved g c = λ plain.
    let bytes = c.args.self.now.0.now in
    let i = c.loop-byte.byte-index in
    let b = get_or (take c.min.result bytes) i 0 in
    let within : (i < length bytes) = search rules in
    let same : (b ≡ get_or bytes i 0) = get_or-take c.min.result bytes i 0 (search rules) in
    let joined = flat_map_more byte_text [] (take i bytes) (get_or bytes i 0) ∙ sym (ap (flat_map byte_text) (take_more bytes i 0 within)) in
    let wrote = has_written_of_eq _ _ (byte_text b) _ _ (ap byte_text same) (search rules) in
    has_written_of_eq _ _ _ _ _ joined (has_written_append _ _ _ _ _ _ (c.loop-byte.invariant plain) wrote)
