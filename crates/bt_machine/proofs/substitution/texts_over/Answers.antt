use Rattle.std.proofs.Common.{◌∙◌, ap, sym, length, false, List}
use Rattle.bt_machine.specs.Footprint.{blend}
use Rattle.bt_machine.specs.inner.Footprint.{among}
use Rattle.bt_machine.proofs.PutLemmas.{blend_again, blend_length}
use Rattle.bt_machine.proofs.substitution.texts_over.Goals as goal

pub put_texts-requires : goal.put_texts-requires
put_texts-requires c =
    sym (ap (λ (l : List _). length l) c.in_ok-texts.ensures ∙ blend_length (λ n. false) c.args.left.now c.args.base.now)

pub returns : goal.returns
returns c =
    c.in_ok-put_texts.ensures ∙ ap (λ (l : List _). blend (among c.args.places.now) c.args.left.now l) c.in_ok-texts.ensures ∙ blend_again (among c.args.places.now) c.args.left.now c.args.base.now
