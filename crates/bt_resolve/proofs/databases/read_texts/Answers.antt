use Rattle.std.proofs.Common.{refl, ap, sym, ◌∙◌, ◌+◌, ◌∷◌, drop}
use Rattle.std.proofs.lemmas.List.{drop_more, drop_all}
use Rattle.bt_resolve.proofs.ReadingLemmas.{texts_next, texts_done}
use Rattle.bt_resolve.proofs.databases.read_texts.Goals as goal

pub texts-preserved : goal.texts-preserved
texts-preserved c =
    let a = c.args.asked.now in
    let ts = c.args.texts.now in
    let i = c.texts.i in
    let here = drop_more ts i c.index-texts-i.result c.texts-test.true ∙ ap (λ x. x ∷ drop (i + 1) ts) (sym c.index-texts-i.is) in
    let read = c.in_ok-read_text.ensures in
    texts_next a (i + 1) _ _ _ _ _ _ (drop (i + 1) ts) here refl read c.texts.invariant

pub returns : goal.returns
returns c = texts_done c.args.asked.now _ _ _ _ (drop_all c.texts.i c.args.texts.now c.texts-test.false) c.texts.invariant
