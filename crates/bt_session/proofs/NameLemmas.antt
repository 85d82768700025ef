-- The names of a job, one of whose files gets another text.
use Rattle.std.proofs.Common.{◌≡◌, ◌∙◌, IsTrue, not, ap, ℕ, suc, Bool, true, false, cond, List, [], ◌∷◌, ◌++◌, eqb, flat_map, codes, Option, Some, None, option_map, refl, sym}
use Rattle.std.specs.Option.{is_some}
use Rattle.std.specs.List.{ends_with}
use Rattle.std.specs.Prelude.{bytes_eq}
use Rattle.bt_job.specs.declared.files.File.{File}
use Rattle.bt_job.specs.FileNames.{text_of}
use Rattle.bibtex.specs.Present.{place_of_file, with_text}
use Rattle.bibtex.specs.inner.Cases.{put_at}
use Rattle.bibtex.proofs.TextLemmas.{place_step, same_name}
use Rattle.bt_front.specs.Job.{is_aux, names_given, names_of, names_with}

-- A file of another name is before the place.
names_after : (o : Option ℕ) (file f : File) (fs : List File) → flat_map names_with (put_at (option_map suc o) file (f ∷ fs)) ≡ names_with f ++ flat_map names_with (put_at o file fs)
names_after None file f fs = refl
names_after (Some n) file f fs = refl

-- a file that gives no names
no_more : (b : Bool) (name : List ℕ) (more : List (List ℕ)) → b ≡ false → name ∷ cond b more [] ≡ name ∷ []
no_more b name more is = ap (λ (c : Bool). name ∷ cond c more []) is

same_names : (f file : File) → f.name ≡ file.name → is_aux file ≡ false → names_with file ≡ names_with f
same_names f file same plain =
    no_more (is_aux file) file.name (names_given file.text) plain
    ∙ ap (λ (n : List ℕ). n ∷ []) (sym same)
    ∙ sym (no_more (is_aux f) f.name (names_given f.text) (ap (λ (n : List ℕ). ends_with eqb n (codes ".aux")) same ∙ plain))

names_stay_at : (file : File) (files : List File) → is_some (text_of files file.name) ≡ true → is_aux file ≡ false
    → flat_map names_with (put_at (place_of_file file.name files) file files) ≡ flat_map names_with files
names_stay_at file [] there plain = absurd cc
names_stay_at file (f ∷ fs) there plain = go (bytes_eq f.name file.name) refl there (place_step file.name f fs) (names_stay_at file fs)
  where
    go : (b : Bool) → bytes_eq f.name file.name ≡ b → is_some (cond b (Some f.text) (text_of fs file.name)) ≡ true
        → place_of_file file.name (f ∷ fs) ≡ cond b (Some 0) (option_map suc (place_of_file file.name fs))
        → (is_some (text_of fs file.name) ≡ true → is_aux file ≡ false → flat_map names_with (put_at (place_of_file file.name fs) file fs) ≡ flat_map names_with fs)
        → flat_map names_with (put_at (place_of_file file.name (f ∷ fs)) file (f ∷ fs)) ≡ flat_map names_with (f ∷ fs)
    go true is known place later =
        ap (λ (o : Option ℕ). flat_map names_with (put_at o file (f ∷ fs))) place
        ∙ ap (λ (ns : List (List ℕ)). ns ++ flat_map names_with fs) (same_names f file (same_name f.name file.name is) plain)
    go false is known place later =
        ap (λ (o : Option ℕ). flat_map names_with (put_at o file (f ∷ fs))) place
        ∙ names_after (place_of_file file.name fs) file f fs
        ∙ ap (λ (ns : List (List ℕ)). names_with f ++ ns) (later known plain)

pub names_stay : (name text : List ℕ) (files : List File) (root old : List ℕ) (other : Bool) → Some old ≡ text_of files name
    → other ≡ ends_with eqb name (codes ".aux") → IsTrue (not other) → names_of (with_text name text files) root ≡ names_of files root
names_stay name text files root old true there is plain = absurd cc
names_stay name text files root old false there is plain =
    ap (λ (ns : List (List ℕ)). (root ++ codes ".aux") ∷ ns)
    (names_stay_at (record { name = name; text = text }) files (sym (ap is_some there)) (sym is))
