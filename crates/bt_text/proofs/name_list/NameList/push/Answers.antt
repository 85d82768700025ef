use Rattle.std.proofs.Common.{◌≡◌, ◌∙◌, ap, ℕ, List, [], ◌∷◌, ◌++◌, map}
use Rattle.std.specs.Prelude.{bytes_eq}
use Rattle.indexmap.specs.IndexMap.{insert_entry}
use Rattle.indexmap.proofs.MapLemmas.{OnOk-map}
use Rattle.bt_text.specs.CaseFolding.{folded}
use Rattle.bt_text.specs.NameList.{same_name}
use Rattle.bt_text.specs.ByName.{listed, by_small}
use Rattle.bt_text.proofs.NameLemmas.{either_way, more_by_small, by_small_again, values_by_small, same_by_small}
use Rattle.bt_text.proofs.name_list.NameList.push.Goals as goal

abbrev names : goal.After-insert → List (List ℕ)
names c = map (λ e. e.1) (listed c.self.inside.spelled)

more : (c : goal.After-insert) → listed c.insert.new.self ≡ insert_entry bytes_eq (listed c.self.inside.spelled) (folded c.args.name.now) c.in_ok-spelling.spelling →
    listed c.insert.new.self ≡ by_small (λ n. n) (names c ++ c.args.name.now ∷ [])
more c is =
    more_by_small (λ (n : List ℕ). n) c.args.name.now (names c) (listed c.self.inside.spelled) (listed c.insert.new.self) c.self.invariant
    (same_by_small c.args.name.now (names c) ∙ ap (same_name c.args.name.now) c.self.view_is ∙ c.requires)
    (is ∙ ap (insert_entry bytes_eq (listed c.self.inside.spelled) (folded c.args.name.now)) c.in_ok-spelling.ensures)

pub invariant_of-self : goal.invariant_of-self
invariant_of-self c =
    either_way _ _ _ c.insert.result
    (λ is. by_small_again (λ (n : List ℕ). n) (names c ++ c.args.name.now ∷ []) (listed c.insert.new.self) (more c is))
    (λ same. by_small_again (λ (n : List ℕ). n) (names c) (listed c.insert.new.self) (same ∙ c.self.invariant)) c.insert.ensures.listed c.insert.ensures.err

pub returns-clause-ok : goal.returns-clause-ok
returns-clause-ok c =
    OnOk-map c.insert.result _ _ (λ is.
    ap (λ (es : List (List ℕ × List ℕ)). map (λ e. e.1) es) (more c is) ∙ values_by_small (λ (n : List ℕ). n) (names c ++ c.args.name.now ∷ [])
    ∙ ap (λ (ns : List (List ℕ)). ns ++ c.args.name.now ∷ []) c.self.view_is) c.insert.ensures.listed
