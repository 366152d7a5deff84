-- A byte more is written by its sign.
use Rattle.std.proofs.Common.{[], ◌∷◌, get_or, take, map, rules, sym, ap, ◌∙◌}
use Rattle.std.proofs.Output.{has_written_append, has_written_of_eq}
use Rattle.std.proofs.lemmas.List.{take_more, map-append}
use Rattle.text.specs.Spelling.{sign_of}
use Rattle.text.proofs.Signs.{one}
use Rattle.text.proofs.print.SpeltDisplay.fmt.Goals as goal

pub loop-byte-preserved : goal.loop-byte-preserved
loop-byte-preserved g c = λ plain.
    let bytes = c.args.self.now.0.now in
    let i = c.loop-byte.byte-index in
    let b = get_or bytes i 0 in
    let joined = sym (map-append sign_of (take i bytes) (b ∷ [])) ∙ sym (ap (map sign_of) (take_more bytes i 0 c.loop-byte-test.true)) in
    let wrote = has_written_of_eq _ _ _ _ _ (one b) (search rules) in
    has_written_of_eq _ _ _ _ _ joined (has_written_append _ _ _ _ _ _ (c.loop-byte.invariant plain) wrote)
