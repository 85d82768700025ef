use Rattle.std.proofs.Common.{◌≡◌, ◌∙◌, ap, map, false, ℕ, List, [], ◌∷◌, ◌++◌}
use Rattle.std.specs.Prelude.{bytes_eq}
use Rattle.std.specs.List.{list_any}
use Rattle.bt_one_shot.proofs.MetLemmas.{put_items}
use Rattle.bt_one_shot.proofs.met_names.NamesMet.put.Goals as goal

pub returns-clause-ok : goal.returns-clause-ok
returns-clause-ok c =
    let is : c.in_ok-name.name.items ≡ c.args.name.now = c.in_ok-name.ensures.items in
    let fresh : list_any (bytes_eq c.in_ok-name.name.items) (map (λ k. k.items) c.self.inside.names.keys) ≡ false = rw (is, c.self.view_is) c.requires in
    ap (map (λ k. k.items)) c.in_ok-insert.ensures.keys ∙ put_items c.in_ok-name.name c.self.inside.names.keys fresh
    ∙ ap (λ (names : List (List ℕ)). names ++ c.in_ok-name.name.items ∷ []) c.self.view_is
    ∙ ap (λ (n : List ℕ). c.args.self.now ++ n ∷ []) is
