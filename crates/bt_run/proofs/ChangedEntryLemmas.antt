-- An edit that changes one entry for READ.
use Rattle.std.specs.Prelude.{◌+◌, option_map, Bool, true, false, not, slice_get, slice_index_or, slice_set, unwrap_or, bytes_eq, IsTrue, ◌||◌, ◌&&◌, if◌then◌else◌}
use Rattle.std.specs.Option.{ForSome, is_some}
use Rattle.std.proofs.Common.{◌≡◌, ◌≢◌, refl, sym, ap, ◌∙◌, subst, inl, inr, ℕ, zero, suc, ◌<◌, List, [], ◌∷◌, ◌++◌, length, map, take, Option, Some, None, arith}
use Rattle.std.proofs.lemmas.Bool.{cases_eq}
use Rattle.std.proofs.lemmas.List.{get_or_default, get_or-set_other, get_or-set_same, length-map, length-set, same_lists, set_comm, take_more}
use Rattle.std.proofs.lemmas.Option.{unwrap_or-slice_get}
use Rattle.std.proofs.lemmas.Slice.Eq.{bytes_eq-Decides}
use Rattle.bt_text.specs.CaseFolding.{folded, is_same_folded}
use Rattle.bt_text.specs.NameList.{are_apart, has_name, same_name}
use Rattle.bt_bib.specs.BibText.{pieces_of}
use Rattle.bt_style.specs.declared.style.Action.TheVariants.{Read}
use Rattle.bt_style.specs.declared.style.Command.{Command}
use Rattle.bt_style.specs.Program.{Program}
use Rattle.bt_actions.specs.declared.entry.Entry.{Entry}
use Rattle.bt_actions.specs.World.{no_entry}
use Rattle.bt_job.specs.Citations.{citations}
use Rattle.bt_job.specs.Fit.{AreDistinct}
use Rattle.bt_job.proofs.FitLemmas.{always_fit}
use Rattle.bt_resolve.specs.declared.declared.Cites.{Cites}
use Rattle.bt_resolve.specs.declared.entry.Entry.{Entry as FoundEntry}
use Rattle.bt_resolve.specs.declared.entry.Resolved.{Resolved}
use Rattle.bt_resolve.specs.declared.kept.ResolvedEdit.{ResolvedEdit}
use Rattle.bt_resolve.specs.declared.seen_edit.OtherEntries.{OtherEntries}
use Rattle.bt_resolve.specs.declared.seen_edit.SeenEdit.{SeenEdit}
use Rattle.bt_resolve.specs.declared.seen_edit.SeenEdit.TheVariants.{Others}
use Rattle.bt_resolve.specs.declared.seen_edit.MadeEntry.{MadeEntry}
use Rattle.bt_resolve.specs.inner.Heirs.{with_made}
use Rattle.bt_resolve.specs.inner.Kept.{items_in, resolved_for, with_database, with_seen}
use Rattle.bt_resolve.proofs.MadeAgainLemmas.{with_more}
use Rattle.bt_resolve.proofs.ApartLemmas.{entries_apart}
use Rattle.bt_run.specs.declared.change.Change.{Change}
use Rattle.bt_run.specs.declared.database_edit.DatabaseEdit.{DatabaseEdit}
use Rattle.bt_run.specs.declared.kept.Kept.{Kept}
use Rattle.bt_run.specs.declared.kept_resolution.KeptResolution.{KeptResolution}
use Rattle.bt_run.specs.ReadCommand.{found_for, with_blank_variables}
use Rattle.bt_run.specs.inner.Alike.{AreFound, found_at}
use Rattle.bt_run.specs.inner.Asked.{with_databases}
use Rattle.bt_run.specs.inner.Beside.{FindsChanged, HasKey}
use Rattle.bt_run.specs.inner.WalkContext.{IsOnlyRead}
use Rattle.bt_run.specs.inner.Cases.{job_for, text_in}
use Rattle.bt_run.specs.inner.Change.{IsAskedOf, IsAskedOfKept}
use Rattle.bt_run.specs.inner.ChangedEntry.{IsChangedEntry, with_other}
use Rattle.bt_run.specs.inner.Unseen.{AreFilesOf, AreOtherwise, AreTextsOf}
use Rattle.bt_run.proofs.FindingLemmas.{put_texts, resolved_is, texts_kept}
use Rattle.bt_run.proofs.FoundBesideLemmas.{keyed_found}
use Rattle.bt_run.proofs.UnseenLemmas.{gone_over, question_is}

-- One entry is another one

set_again : (es : List FoundEntry) (i : ℕ) (e : FoundEntry) → slice_get es i ≡ Some e → slice_set es i e ≡ es
set_again [] i e at = refl
set_again (x ∷ es) zero e at = ap (λ (o : Option FoundEntry). unwrap_or o x ∷ es) (sym at)
set_again (x ∷ es) (suc i) e at = ap (λ (ds : List FoundEntry). x ∷ ds) (set_again es i e at)

made_more : (ms : List MadeEntry) (k : ℕ) (m : MadeEntry) (es : List FoundEntry) → k < length ms → m ≡ slice_index_or ms k m → with_made (take (k + 1) ms) es ≡ slice_set (with_made (take k ms) es) m.index m.entry
made_more ms k m es less is =
    ap (λ (l : List MadeEntry). with_made l es) (take_more ms k m less ∙ ap (λ (o : MadeEntry). take k ms ++ o ∷ []) (sym is))
    ∙ with_more (take k ms) m es

-- one more that is the same
pub made_same : (ms : List MadeEntry) (k : ℕ) (m : MadeEntry) (es : List FoundEntry) (other : Option MadeEntry) → k < length ms → m ≡ slice_index_or ms k m → slice_get es m.index ≡ Some m.entry → ForSome other (λ o. m.index ≢ o.index) → with_made (take k ms) es ≡ with_other other es → with_made (take (k + 1) ms) es ≡ with_other other es
made_same ms k m es None less is at apart before =
    made_more ms k m es less is ∙ ap (λ (ds : List FoundEntry). slice_set ds m.index m.entry) before ∙ set_again es m.index m.entry at
made_same ms k m es (Some o) less is at apart before =
    made_more ms k m es less is ∙ ap (λ (ds : List FoundEntry). slice_set ds m.index m.entry) before
    ∙ set_comm es o.index m.index o.entry m.entry (λ same. apart o refl (sym same))
    ∙ ap (λ (ds : List FoundEntry). slice_set ds o.index o.entry) (set_again es m.index m.entry at)

-- the first that differs
pub made_other : (ms : List MadeEntry) (k : ℕ) (m : MadeEntry) (es : List FoundEntry) → k < length ms → m ≡ slice_index_or ms k m → with_made (take k ms) es ≡ es → with_made (take (k + 1) ms) es ≡ with_other (Some m) es
made_other ms k m es less is before = made_more ms k m es less is ∙ ap (λ (ds : List FoundEntry). slice_set ds m.index m.entry) before

pub none_other : {A : Type 0} (f : A → MadeEntry) (o : Option A) (es : List FoundEntry) → is_some o ≡ false → with_other (option_map f o) es ≡ es
none_other f None es none = refl
none_other f (Some x) es none = absurd cc

pub is_other : (k : KeptResolution) (edit : DatabaseEdit) (made : ResolvedEdit) (others : OtherEntries) (all : Resolved) (place : ℕ) (d : FoundEntry) → all ≡ resolved_for k.resolution → k.edit ≡ Some edit → edit.made ≡ Some made → made.seen ≡ Others others → place < length all.entries → with_made others.made all.entries ≡ slice_set all.entries place d → made.messages ≡ all.messages → IsChangedEntry k place d
is_other k edit made others all place d is is_edit is_made seen within entries messages =
    record {
      edit = edit;
      made = made;
      is_edit = is_edit;
      is_made = is_made;
      within = subst (λ (r : Resolved). place < length r.entries) is within;
      entries = ap (λ (e : SeenEdit). with_seen e (resolved_for k.resolution).entries) seen ∙ ap (λ (r : Resolved). with_made others.made r.entries) (sym is) ∙ entries ∙ ap (λ (r : Resolved). slice_set r.entries place d) is;
      messages = messages ∙ ap (λ (r : Resolved). r.messages) is;
    }

-- ---- keys

none_named : (b : Bool) (n name : List ℕ) (ns : List (List ℕ)) → (same_name name ns ≡ None → has_name ns name ≡ false) → (if b then Some n else same_name name ns) ≡ None → (b || has_name ns name) ≡ false
none_named true n name ns rest h = let none : Option (List ℕ) = None in let wrong : Some n ≡ none = h in cc
none_named false n name ns rest h = rest h

none_has : (name : List ℕ) (ns : List (List ℕ)) → same_name name ns ≡ None → has_name ns name ≡ false
none_has name [] h = refl
none_has name (n ∷ ns) h = none_named (is_same_folded n name) n name ns (none_has name ns) h

pub distinct_apart : (names : List (List ℕ)) → AreDistinct names → are_apart names ≡ true
distinct_apart [] h = refl
distinct_apart (n ∷ ns) h =
    let here : has_name ns n ≡ false = none_has n ns h.0 in
    let rest : are_apart ns ≡ true = distinct_apart ns h.1 in
    λ j. not (here j) && rest j

first_apart : (b c : Bool) → (not b && c) ≡ true → b ≡ false
first_apart true c h = absurd cc
first_apart false c h = refl

rest_apart : (b c : Bool) → (not b && c) ≡ true → c ≡ true
rest_apart true c h = absurd cc
rest_apart false c h = h

or_right : (b c : Bool) → c ≡ true → (b || c) ≡ true
or_right true c h = refl
or_right false c h = h

has_itself : (names : List (List ℕ)) (n : ℕ) (name : List ℕ) → n < length names → slice_index_or names n [] ≡ name → has_name names name ≡ true
has_itself [] n name lt is = absurd (omega (arith, lt))
has_itself (x ∷ xs) zero name lt is =
    ap (λ (b : Bool). b || has_name xs name) ((bytes_eq-Decides (folded x) (folded name)).1 (ap folded is))
has_itself (x ∷ xs) (suc n) name lt is = or_right (is_same_folded x name) (has_name xs name) (has_itself xs n name (omega (arith, lt)) is)

not_both : (b : Bool) → b ≡ true → b ≡ false → ⊥
not_both true h g = absurd cc
not_both false h g = absurd cc

-- Names that are apart are different.
pub names_differ : (names : List (List ℕ)) (m n : ℕ) → are_apart names ≡ true → m < length names → n < length names → m ≢ n → slice_index_or names m [] ≡ slice_index_or names n [] → ⊥
names_differ [] m n apart lt below other same = absurd (omega (arith, lt))
names_differ (x ∷ xs) zero zero apart lt below other same = other refl
names_differ (x ∷ xs) zero (suc n) apart lt below other same =
    not_both (has_name xs x) (has_itself xs n x (omega (arith, below)) (sym same)) (first_apart (has_name xs x) (are_apart xs) apart)
names_differ (x ∷ xs) (suc m) zero apart lt below other same =
    not_both (has_name xs x) (has_itself xs m x (omega (arith, lt)) same) (first_apart (has_name xs x) (are_apart xs) apart)
names_differ (x ∷ xs) (suc m) (suc n) apart lt below other same =
    names_differ xs m n (rest_apart (has_name xs x) (are_apart xs) apart) (omega (arith, lt)) (omega (arith, below)) (λ is. other (ap suc is)) same

found_key : (es : List FoundEntry) (n : ℕ) → (found_at es n).key ≡ slice_index_or (map (λ (e : FoundEntry). e.key) es) n []
found_key [] n = refl
found_key (e ∷ es) zero = refl
found_key (e ∷ es) (suc n) = found_key es n

false_if : (b : Bool) → (b ≡ true → ⊥) → b ≡ false
false_if true h = absurd (h refl)
false_if false h = refl

-- No two entries that READ finds for keys that are apart have one key.
pub keyed_alone : (k : KeptResolution) (entries : List Entry) (place : ℕ) (key : List ℕ) (d : Entry) → IsTrue (are_apart k.resolution.cites.keys) → AreFound (resolved_for k.resolution) entries → length (resolved_for k.resolution).entries ≡ length entries → place < length entries → d ≡ slice_index_or entries place d → d.key ≡ key → HasKey place key entries
keyed_alone k entries place key d cited found counted within is named =
    let q = k.resolution in
    let es = (resolved_for q).entries in
    let names = map (λ (e : FoundEntry). e.key) es in
    let apart : are_apart names ≡ true = entries_apart q.declared q.cites (items_in q) q.min cited in
    let at : (m : ℕ) → (slice_index_or entries m no_entry).key ≡ slice_index_or names m [] = λ m. ap (λ (e : Entry). e.key) (found m) ∙ found_key es m in
    let all : length names ≡ length es = length-map es (λ (e : FoundEntry). e.key) in
    let own : (slice_index_or entries place no_entry).key ≡ key = ap (λ (e : Entry). e.key) (get_or_default entries place no_entry d within ∙ sym is) ∙ named in
    record {
      here = λ lt. (bytes_eq-Decides (slice_index_or entries place no_entry).key key).1 own;
      apart = λ m lt other. false_if (bytes_eq (slice_index_or entries m no_entry).key key) (λ same.
          names_differ names m place apart (omega (arith, lt, all, counted)) (omega (arith, within, all, counted)) other
          (sym (at m) ∙ (bytes_eq-Decides (slice_index_or entries m no_entry).key key).0 same ∙ sym own ∙ at place));
    }

-- The keys that files cite are apart.
pub cited_apart : (h : Change) (k : KeptResolution) (p : Program) → IsAskedOf h k p → IsTrue (are_apart k.resolution.cites.keys)
cited_apart h k p asks =
    subst (λ (c : Cites). IsTrue (are_apart c.keys)) (sym asks.asked.cites) (distinct_apart (citations h.was.now h.root.now).keys (always_fit h.was.now h.root.now).keys)

-- ---- what READ finds

get_seam : (front : List Command) (c : Command) (back : List Command) → slice_get (front ++ c ∷ back) (length front) ≡ Some c
get_seam [] c back = refl
get_seam (x ∷ front) c back = get_seam front c back

read_here : (number : ℕ) (cs : List Command) (only : IsOnlyRead number cs) → slice_get cs number ≡ Some (record { action = Read; line = only.line })
read_here number cs only =
    (λ j. slice_get (only.are j) (only.at j)) ∙ get_seam only.front (record { action = Read; line = only.line }) only.back

pub finds_other : (h : Change) (k : KeptResolution) (p : Program) (entries : List Entry) (place number : ℕ) (d : FoundEntry) (asks : IsAskedOf h k p) → AreFilesOf h.was.now h.root.now k → AreOtherwise h.name.now h.was.now h.files.now → IsChangedEntry k place d → IsOnlyRead number p.commands → AreFound (resolved_for k.resolution) entries → length (resolved_for k.resolution).entries ≡ length entries → HasKey place d.key entries →
    FindsChanged place d.key d (found_for (job_for h.was.now (citations h.was.now h.root.now) h.min asks.style p) number) (found_for (job_for h.files.now (citations h.was.now h.root.now) h.min asks.style p) number) p
finds_other h k p entries place number d asks were rest other only found counted keyed =
    let was = h.was.now in
    let files = h.files.now in
    let c = citations was h.root.now in
    let q = k.resolution in
    let e = other.edit in
    let edit = k.edited e other.is_edit other.made other.is_made in
    let edited = asks.edited e other.is_edit in
    let now = with_database e.number e.items q in
    let texts = slice_set k.texts e.number e.text in
    let here = read_here number p.commands only in
    let put : now ≡ with_databases (map pieces_of texts) q = put_texts q now k.texts e.number e.text e.items k.read e.read refl in
    let texts_now : texts ≡ map (text_in files) c.databases = gone_over h.name.now was files c.databases k.texts texts e rest were refl edited.0 edited.1 in
    let before : resolved_for q ≡ found_for (job_for was c h.min asks.style p) number =
    ap resolved_for (sym (question_is was c h.min asks.style p q q k.texts number only.line asks.asked (texts_kept q k.texts k.texts k.read refl) were here))
    ∙ resolved_is (job_for was c h.min asks.style p) number
    in
    let after : found_for (job_for files c h.min asks.style p) number ≡ resolved_for now =
    sym (resolved_is (job_for files c h.min asks.style p) number)
    ∙ ap resolved_for (question_is files c h.min asks.style p q now texts number only.line asks.asked put texts_now here)
    in
    record {
      entries = ap (λ (r : Resolved). r.entries) after ∙ edit.entries ∙ other.entries ∙ ap (λ (r : Resolved). slice_set r.entries place d) before;
      preamble = ap (λ (r : Resolved). r.preamble) after ∙ sym edit.kept.preamble ∙ ap (λ (r : Resolved). r.preamble) before;
      messages = ap (λ (r : Resolved). r.messages) after ∙ edit.messages ∙ other.messages ∙ ap (λ (r : Resolved). r.messages) before;
      keyed = subst (λ (r : Resolved). HasKey place d.key (map (with_blank_variables p) r.entries)) before (keyed_found place d.key p (resolved_for q) entries found counted keyed);
    }

-- ---- what the functions need of each other

pub asked_of_kept : (h : Change) (kept : Kept) (k : KeptResolution) (p : Program) → kept.resolution ≡ Some k → IsTrue kept.is_own → IsAskedOf h k p → AreTextsOf h.was.now h.root.now kept → IsTrue kept.is_present → IsAskedOfKept h kept p
asked_of_kept h kept k p is own asks texts present =
    record { k = k; is = is; own = own; asked = asks; texts = texts present k is }
