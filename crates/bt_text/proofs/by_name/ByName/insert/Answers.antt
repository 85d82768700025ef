use Rattle.std.proofs.Common.{◌≡◌, ◌∙◌, ap, map, ℕ, List}
use Rattle.std.proofs.Math.Path.{fun_ext}
use Rattle.std.specs.Prelude.{bytes_eq}
use Rattle.std.specs.Map.{lookup}
use Rattle.bt_text.specs.CaseFolding.{folded}
use Rattle.bt_text.specs.ByName.{listed, with_entry}
use Rattle.bt_text.proofs.NameLemmas.{insert_entries, lookup_insert}
use Rattle.bt_text.proofs.by_name.ByName.insert.Goals as goal

pub returns-clause-listed : goal.returns-clause-listed
returns-clause-listed g c =
    let small : c.into_vec-small.result.items ≡ folded c.args.name.now = c.into_vec-small.ensures ∙ c.in_ok-to_ascii_lowercase.ensures in
    ap (λ es. map (λ e. (e.0.items, e.1)) es) c.in_ok-insert.ensures.entries
    ∙ insert_entries c.into_vec-small.result c.args.value c.args.self.now.values.entries
    ∙ ap (λ (s : List ℕ). with_entry s c.args.value (listed c.args.self.now)) small

pub returns-clause-known : goal.returns-clause-known
returns-clause-known g c =
    fun_ext (λ other. ap (λ es. lookup (bytes_eq (folded other)) es) (returns-clause-listed g c) ∙ lookup_insert (folded c.args.name.now) (folded other) c.args.value (listed c.args.self.now))
