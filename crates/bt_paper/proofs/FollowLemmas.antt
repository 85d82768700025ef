-- Files that keep their texts follow the documents as before.
use Rattle.std.proofs.Common.{◌≡◌, ◌∙◌, ap, sym, subst, refl, ℕ, Bool, true, false, List, [], ◌∷◌, Option, Some}
use Rattle.std.specs.Prelude.{if◌then◌else◌, bytes_eq}
use Rattle.std.specs.List.{AllByRecursion}
use Rattle.bt_documents.specs.declared.document.Document.{Document}
use Rattle.bt_documents.specs.Documents.{IsInStep, Follows}
use Rattle.bibtex.specs.declared.state.State.{State}
use Rattle.bt_paper.specs.declared.known.Known.{Known}
use Rattle.bt_paper.specs.Paper.{text_at, is_among, KeepsTexts, KeepsOthers}

abbrev Texts : Type 0
Texts = List ℕ → Option (List ℕ)

pub keeps_both : (t u v : Texts) → KeepsTexts t u → KeepsTexts u v → KeepsTexts t v
keeps_both t u v p q uri text e = q uri text (p uri text e)

each_kept : (t u : Texts) (docs : List Document) → KeepsTexts t u → AllByRecursion (IsInStep t) docs → AllByRecursion (IsInStep u) docs
each_kept t u [] k p = tt
each_kept t u (d ∷ ds) k p = (λ step. k d.name d.text (p.0 step), each_kept t u ds k p.1)

pub follows_kept : (t u : Texts) (docs : List Document) → KeepsTexts t u → Follows t docs → Follows u docs
follows_kept t u docs k f = record { once = f.once; each = each_kept t u docs k f.each }

each_but : (t u : Texts) (uri : List ℕ) (docs : List Document) → is_among uri docs ≡ false → KeepsOthers uri t u → AllByRecursion (IsInStep t) docs → AllByRecursion (IsInStep u) docs
each_but t u uri [] closed k p = tt
each_but t u uri (d ∷ ds) closed k p = go (bytes_eq d.name uri) refl closed (λ later. each_but t u uri ds later k p.1)
  where
    go : (b : Bool) → bytes_eq d.name uri ≡ b → (if b then true else is_among uri ds) ≡ false → (is_among uri ds ≡ false → AllByRecursion (IsInStep u) ds) →
        AllByRecursion (IsInStep u) (d ∷ ds)
    go true is wrong rest = absurd (cc)
    go false is later rest = (λ step. k d.name d.text is (p.0 step), rest later)

-- a file that isn't open may change
pub follows_but : (t u : Texts) (uri : List ℕ) (docs : List Document) → is_among uri docs ≡ false → KeepsOthers uri t u → Follows t docs → Follows u docs
follows_but t u uri docs closed k f = record { once = f.once; each = each_but t u uri docs closed k f.each }

-- the file at a URI that isn't open was read again
pub follows_reread : (old : Option State) (s t : State) (known seen : List Known) (uri name other : List ℕ) (docs : List Document) (b : Bool) → old ≡ Some s → seen ≡ known →
    name ≡ uri → other ≡ uri → b ≡ is_among name docs → b ≡ false → KeepsOthers other (text_at (Some s) seen) (text_at (Some t) seen) →
    Follows (text_at old known) docs → Follows (text_at (Some t) known) docs
follows_reread old s t known seen uri name other docs b o k n e is closed kept f =
    let here = subst (λ u. KeepsOthers u (text_at (Some s) seen) (text_at (Some t) seen)) e kept in
    let now = subst (λ x. KeepsOthers uri (text_at (Some s) x) (text_at (Some t) x)) k here in
    follows_but (text_at (Some s) known) (text_at (Some t) known) uri docs (ap (λ u. is_among u docs) (sym n) ∙ sym is ∙ closed) now
    (subst (λ x. Follows (text_at x known) docs) o f)
