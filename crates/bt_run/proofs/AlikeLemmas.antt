-- What is known of the entries that READ found.
use Rattle.std.specs.Prelude.{Bool, true, false, slice_get, slice_set, IsTrue}
use Rattle.std.specs.Option.{ForSome}
use Rattle.std.proofs.Common.{◌≡◌, refl, sym, ap, ◌∙◌, subst, ℕ, zero, suc, List, [], ◌∷◌, map, Option, Some, None}
use Rattle.bt_style.specs.Program.{Program}
use Rattle.bt_bib.specs.BibText.{pieces_of}
use Rattle.bt_bib.specs.declared.placed_pieces.PlacedPiece.{PlacedPiece}
use Rattle.bt_actions.specs.declared.entry.Entry.{Entry}
use Rattle.bt_resolve.specs.declared.entry.Entry.{Entry as FoundEntry}
use Rattle.bt_resolve.specs.declared.entry.Resolved.{Resolved}
use Rattle.bt_resolve.specs.declared.question.Question.{Question}
use Rattle.bt_resolve.specs.declared.seen_edit.SeenEdit.{SeenEdit}
use Rattle.bt_resolve.specs.declared.seen_edit.SeenEdit.TheVariants.{Same, Others}
use Rattle.bt_resolve.specs.declared.kept.ResolvedEdit.{ResolvedEdit}
use Rattle.bt_resolve.specs.inner.Kept.{IsResolvedEdit, IsSpared, resolved_for, with_database}
use Rattle.bt_run.specs.declared.alike.Alike.{Alike}
use Rattle.bt_run.specs.declared.alike.Alike.TheVariants as Alikes
use Rattle.bt_run.specs.declared.course.Course.{Course}
use Rattle.bt_run.specs.declared.kept_resolution.KeptResolution.{KeptResolution}
use Rattle.bt_run.specs.ReadCommand.{Job, found_for, read, with_blank_variables}
use Rattle.bt_run.specs.inner.Alike.{AreFound, IsAlike, Stays, alike_after, found_at, found_fixed, is_known}
use Rattle.bt_run.specs.inner.Asked.{question_for, with_databases}
use Rattle.bt_run.specs.inner.Earlier.{fixed, fixed_at}
use Rattle.bt_run.specs.inner.Edits.{IsAlikeAfter, Makes}
use Rattle.bt_run.specs.inner.Found.{AreFoundBy, IsKept}
use Rattle.bt_run.proofs.FindingLemmas.{put_texts, resolved_is}

-- an edit leaves the entries that it spares

abbrev entry_or : FoundEntry → Option FoundEntry → FoundEntry
entry_or e None = e
entry_or e (Some d) = d

same_found : (ds es : List FoundEntry) (n : ℕ) → slice_get ds n ≡ slice_get es n → found_at ds n ≡ found_at es n
same_found [] [] n is = refl
same_found [] (e ∷ es) zero is = let none : Option FoundEntry = None in let wrong : none ≡ Some e = is in cc
same_found [] (e ∷ es) (suc n) is = same_found [] es n is
same_found (d ∷ ds) [] zero is = let none : Option FoundEntry = None in let wrong : Some d ≡ none = is in cc
same_found (d ∷ ds) [] (suc n) is = same_found ds [] n is
same_found (d ∷ ds) (e ∷ es) zero is = ap (λ (o : Option FoundEntry). fixed (found_fixed (entry_or d o))) is
same_found (d ∷ ds) (e ∷ es) (suc n) is = same_found ds es n is

stays_spared : (seen : SeenEdit) (n : ℕ) → Stays (alike_after seen) n → IsSpared seen n
stays_spared Same n stays = tt
stays_spared (Others o) n stays = stays

pub put_alike : (was is : Question) (texts : List (List ℕ)) (number : ℕ) (text : List ℕ) (items : List PlacedPiece) (made : ResolvedEdit) (alike : Alike) → was.databases ≡ map pieces_of texts → items ≡ pieces_of text → IsResolvedEdit was number items made → alike ≡ alike_after made.seen → is ≡ with_databases (map pieces_of (slice_set texts number text)) was → IsAlike alike (resolved_for was) (resolved_for is)
put_alike was is texts number text items made alike read are_items edit known put =
    let now = with_database number items was in
    let same : now ≡ is = put_texts was now texts number text items read are_items refl ∙ sym put in
    λ n stays.
    same_found (resolved_for was).entries (resolved_for is).entries n
    (edit.spared n (stays_spared made.seen n (subst (λ (a : Alike). Stays a n) known stays))
    ∙ ap (λ (q : Question). slice_get (resolved_for q).entries n) same)

pub edited_alike : (kept : KeptResolution) (now : Question) (alike : Alike) → IsAlikeAfter kept.edit alike → ForSome kept.edit (λ e. ForSome e.made (λ made. now ≡ with_databases (map pieces_of (slice_set kept.texts e.number e.text)) kept.resolution)) → IsAlike alike (resolved_for kept.resolution) (resolved_for now)
edited_alike kept now alike after put =
    let e = after.edit in
    put_alike kept.resolution now kept.texts e.number e.text e.items after.made alike kept.read e.read (kept.edited e after.is_edit after.made after.is_made) after.is
    (put e after.is_edit after.made after.is_made)

pub edited_texts : (kept : KeptResolution) (now : Question) (alike : Alike) (texts : List (List ℕ)) → IsAlikeAfter kept.edit alike → ForSome kept.edit (λ e. ForSome e.made (λ made. now ≡ with_databases (map pieces_of (slice_set kept.texts e.number e.text)) kept.resolution)) → ForSome kept.edit (Makes kept.texts texts) → now ≡ with_databases (map pieces_of texts) kept.resolution
edited_texts kept now alike texts after put makes =
    put after.edit after.is_edit after.made after.is_made
    ∙ ap (λ (ts : List (List ℕ)). with_databases (map pieces_of ts) kept.resolution) (sym (makes after.edit after.is_edit))

-- what READ leaves is what it found

pub blank_fixed : (p : Program) (es : List FoundEntry) (n : ℕ) → fixed_at (map (with_blank_variables p) es) n ≡ found_at es n
blank_fixed p [] n = refl
blank_fixed p (e ∷ es) zero = refl
blank_fixed p (e ∷ es) (suc n) = blank_fixed p es n

pub read_found : (job : Job) (number : ℕ) (r back : Course) → back ≡ read job number r → AreFound (resolved_for (question_for job number)) back.entries
read_found job number r back is = λ n.
    ap (λ (c : Course). fixed_at c.entries n) is
    ∙ blank_fixed job.program (found_for job number).entries n
    ∙ ap (λ (all : Resolved). found_at all.entries n) (sym (resolved_is job number))

abbrev kept_or : KeptResolution → Option KeptResolution → KeptResolution
kept_or k None = k
kept_or k (Some r) = r

pub found_read : (kept : Option KeptResolution) (job : Job) (number : ℕ) (r back : Course) → IsKept kept (question_for job number) → back ≡ read job number r → AreFoundBy true kept back.entries
found_read None job number r back about is = absurd about
found_read (Some kept) job number r back about is = record {
  some = λ go. refl;
  found = λ go k e.
      let same : kept ≡ k = ap (kept_or kept) e in
      subst (λ (q : Question). AreFound (resolved_for q) back.entries) (sym about ∙ ap (λ (r : KeptResolution). r.resolution) same) (read_found job number r back is);
}

-- what is known of the entries of an earlier run

earlier_alike : (is_own : Bool) (kept : Option KeptResolution) (entries : List Entry) (alike : Alike) (is : Resolved) → AreFoundBy is_own kept entries → IsTrue is_own → ((was : Question) → IsKept kept was → IsAlike alike (resolved_for was) is) → (n : ℕ) → Stays alike n → fixed_at entries n ≡ found_at is.entries n
earlier_alike is_own None entries alike is h own known = (let wrong : IsTrue false = h.some own in absurd cc)
earlier_alike is_own (Some kept) entries alike is h own known = λ n stays. h.found own kept refl n ∙ known kept.resolution refl n stays

pub stays_read : (is_earlier : Bool) (kept : Option KeptResolution) (entries : List Entry) (found alike : Alike) (job : Job) (number : ℕ) (r back : Course) → AreFoundBy is_earlier kept entries → ((was : Question) → IsKept kept was → IsAlike found (resolved_for was) (resolved_for (question_for job number))) → ((n : ℕ) → Stays alike n → IsTrue is_earlier × Stays found n) → back ≡ read job number r → (n : ℕ) → Stays alike n → fixed_at entries n ≡ fixed_at back.entries n
stays_read is_earlier kept entries found alike job number r back h known both is = λ n stays.
    let so = both n stays in
    earlier_alike is_earlier kept entries found (resolved_for (question_for job number)) h so.0 known n so.1
    ∙ sym (read_found job number r back is n)

pub stays_known : (alike : Alike) (n : ℕ) → Stays alike n → IsTrue (is_known alike)
stays_known Alikes.Unknown n stays = absurd stays
stays_known Alikes.All n stays = refl
stays_known (Alikes.Those flags) n stays = refl

-- what is kept and about this question, after it became that of another one, if anything is known then
pub kept_alike : (alike : Alike) (was before after asked : Question) → before ≡ was → (IsTrue (is_known alike) → after ≡ asked) → IsAlike alike (resolved_for before) (resolved_for after) → IsAlike alike (resolved_for was) (resolved_for asked)
kept_alike alike was before after asked same known h = λ n stays.
    ap (λ (q : Question). found_at (resolved_for q).entries n) (sym same)
    ∙ h n stays
    ∙ ap (λ (q : Question). found_at (resolved_for q).entries n) (known (stays_known alike n stays))
