-- What an edit of a session does to the texts of names.
use Rattle.std.proofs.Common.{◌≡◌, ◌∙◌, ap, sym, refl, subst, ℕ, Bool, true, false, List, Option, Some, None, option_map, Bor}
use Rattle.std.specs.Prelude.{if◌then◌else◌, bytes_eq, unwrap_or, IsTrue}
use Rattle.bt_job.specs.FileNames.{text_of}
use Rattle.bibtex.specs.declared.state.State.{State}
use Rattle.bibtex.specs.Present.{with_text}
use Rattle.bibtex.specs.inner.Cases.{without}
use Rattle.bibtex.proofs.TextLemmas.{same_name, flipped, put_is, text_of_put, text_of_without}
use Rattle.bt_paper.specs.declared.known.Known.{Known}
use Rattle.bt_paper.specs.Known.{name_of}
use Rattle.bt_paper.specs.Paper.{text_under, text_at, GivesText, OthersStay, KeepsTexts, KeepsOthers, IsOfJob, KeepsJob}
use Rattle.bt_paper.proofs.KnownLemmas.{not_none, names_apart}

-- a text that was written
pub text_written : (name new : List ℕ) (s t : State) → t ≡ record s { texts = with_text name new s.texts } → GivesText name new s t
text_written name new s t e other =
    ap (λ (x : State). text_of x.texts other) e ∙
    ap (λ fs. text_of fs other) (put_is (record { name = name; text = new }) s.texts) ∙ text_of_put (record { name = name; text = new }) s.texts other

-- a file that was taken away
pub text_removed : (name : List ℕ) (s t : State) → t ≡ record s { texts = without name s.texts } → OthersStay name s t
text_removed name s t e other apart =
    ap (λ (x : State). text_of x.texts other) e ∙ text_of_without name s.texts other ∙ rw apart refl

-- a job whose texts alone change
pub job_written : (name new : List ℕ) (s t : State) → t ≡ record s { texts = with_text name new s.texts } → KeepsJob s t
job_written name new s t e = (ap (λ (x : State). x.root) e, ap (λ (x : State). x.min) e)

pub job_stays : (s t : State) → t ≡ s → KeepsJob s t
job_stays s t e = (ap (λ (x : State). x.root) e, ap (λ (x : State). x.min) e)

-- a session of the job that was asked for, or of the other one if none was
pub of_asked : (asked : Option (Bor (List ℕ))) (other root : Bor (List ℕ)) (bytes own : List ℕ) (session : Option State) → root ≡ unwrap_or asked other → bytes ≡ root.now → other.now ≡ own →
    IsOfJob bytes session → IsOfJob (unwrap_or (option_map (λ (b : Bor (List ℕ)). b.now) asked) own) session
of_asked None other root bytes own session is has names begun = subst (λ x. IsOfJob x session) (has ∙ ap (λ (b : Bor (List ℕ)). b.now) is ∙ names) begun
of_asked (Some b) other root bytes own session is has names begun = subst (λ x. IsOfJob x session) (has ∙ ap (λ (b : Bor (List ℕ)). b.now) is) begun

-- a text that was there already
pub text_there : (name new : List ℕ) (s : State) → text_of s.texts name ≡ Some new → GivesText name new s s
text_there name new s e other = go (bytes_eq name other) refl
  where
    go : (b : Bool) → bytes_eq name other ≡ b → text_of s.texts other ≡ (if b then Some new else text_of s.texts other)
    go true is = subst (λ n. text_of s.texts n ≡ Some new) (same_name name other is) e
    go false is = refl

-- ---- from names to URIs

-- the text of a URI is that of its name
pub under : (s : State) (o : Option (List ℕ)) (text : List ℕ) → text_under (Some s) o ≡ Some text → (n : List ℕ) × (o ≡ Some n) × (text_of s.texts n ≡ Some text)
under s None text e = absurd (cc)
under s (Some n) text e = (n, refl, e)

given_other : (name new other text : List ℕ) (s t : State) → GivesText name new s t → bytes_eq name other ≡ false → text_of s.texts other ≡ Some text → text_of t.texts other ≡ Some text
given_other name new other text s t gives apart e = gives other ∙ rw apart e

-- a name without a text is none that has one
unlike : (s : State) (name other text : List ℕ) → text_of s.texts name ≡ None → text_of s.texts other ≡ Some text → bytes_eq name other ≡ false
unlike s name other text none e = go (bytes_eq name other) refl
  where
    go : (b : Bool) → bytes_eq name other ≡ b → bytes_eq name other ≡ false
    go false is = is
    go true is = absurd (not_none (text_of s.texts other) text (subst (λ n. text_of s.texts n ≡ None) (same_name name other is) none) e)

-- a new text under a name that has none
pub text_added : (s t : State) (known more : List Known) (name new : List ℕ) (b : Bool) → text_of s.texts name ≡ None →
    ((uri n : List ℕ) → name_of known uri ≡ Some n → name_of more uri ≡ Some n) → (b ≡ false → t ≡ s) → (IsTrue b → GivesText name new s t) →
    KeepsTexts (text_at (Some s) known) (text_at (Some t) more)
text_added s t known more name new b none keeps kept gives uri text e =
    let was = under s (name_of known uri) text e in
    rw (keeps uri was.0 was.1) (go b kept gives was.0 was.2)
  where
    go : (b : Bool) → (b ≡ false → t ≡ s) → (IsTrue b → GivesText name new s t) → (n : List ℕ) → text_of s.texts n ≡ Some text → text_of t.texts n ≡ Some text
    go false kept gives n is = subst (λ (x : State). text_of x.texts n ≡ Some text) (sym (kept refl)) is
    go true kept gives n is = given_other name new n text s t (gives refl) (unlike s name n text none is) is

-- a new text of the file at a URI
pub text_reread : (s t : State) (known : List Known) (uri name : List ℕ) → name_of known uri ≡ Some name → OthersStay name s t → KeepsOthers uri (text_at (Some s) known) (text_at (Some t) known)
text_reread s t known uri name is stay other text apart e =
    let was = under s (name_of known other) text e in
    rw was.1 (stay was.0 (names_apart known uri other name was.0 is was.1 (flip apart)) ∙ was.2)
  where
    flip : bytes_eq other uri ≡ false → bytes_eq uri other ≡ false
    flip apart = flipped uri other ∙ apart

-- a text that was given, or refused, leaves others
pub others_given : (s t : State) (name new : List ℕ) (b : Bool) → (b ≡ false → t ≡ s) → (IsTrue b → GivesText name new s t) → OthersStay name s t
others_given s t name new false kept gives other apart = ap (λ (x : State). text_of x.texts other) (kept refl)
others_given s t name new true kept gives other apart = gives refl other ∙ rw apart refl
