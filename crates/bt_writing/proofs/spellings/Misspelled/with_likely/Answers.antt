use Rattle.std.proofs.Common.{◌≡◌, Bool, false, [], ◌∷◌, ◌++◌, length, map, sym, ap, ◌∙◌}
use Rattle.std.specs.Prelude.{◌==◌, if◌then◌else◌}
use Rattle.serde_json.specs.View.{view}
use Rattle.bt_writing.specs.Spellings.{spelling}
use Rattle.bt_writing.proofs.spellings.Misspelled.with_likely.Goals as goal

pub returns : goal.returns
returns c =
    let d = c.args.self.now.document.now in
    let list = map view c.args.list.items in
    let likely = c.args.likely.now in
    let some : (length likely == 0) ≡ false = sym c.is_empty.ensures ∙ c.if-is_empty.false in
    c.in_ok-all.ensures ∙ ap (λ v. list ++ v ∷ []) c.in_ok-value.ensures ∙
    sym (ap (λ (b : Bool). if b then list else list ++ spelling d c.args.mark likely ∷ []) some)
