-- Look-ups in texts that differ in their order.
use Rattle.std.proofs.Common.{◌≡◌, ◌∙◌, ap, sym, refl, ℕ, suc, Bool, true, false, cond, ◌||◌, List, [], ◌∷◌, length, map, Option, Some, None, option_map, is_some, is_none}
use Rattle.std.specs.Prelude.{bytes_eq}
use Rattle.std.specs.Set.{is_member}
use Rattle.std.proofs.lemmas.Cmp.{nat_list_eq_equiv}
use Rattle.std.proofs.lemmas.List.{length-map}
use Rattle.std.proofs.lemmas.Map.Made.{length-from_same_keys}
use Rattle.bt_job.specs.declared.files.File.{File}
use Rattle.bt_job.specs.FileNames.{text_of}
use Rattle.bibtex.specs.Present.{EachOnce, place_of_file}
use Rattle.bt_run.specs.laws.ByName.{HaveSameTexts}
use Rattle.bibtex.proofs.TextLemmas.{flipped, place_step}

-- Which file has a name

none_later : (o : Option ℕ) → is_none (option_map suc o) ≡ is_none o
none_later None = refl
none_later (Some n) = refl

-- A name has a place exactly where it has a text.
pub place_there : (name : List ℕ) (files : List File) → is_none (place_of_file name files) ≡ is_none (text_of files name)
place_there name [] = refl
place_there name (f ∷ fs) = rw (place_step name f fs) (go (bytes_eq f.name name) (place_there name fs))
  where
    go : (b : Bool) → is_none (place_of_file name fs) ≡ is_none (text_of fs name) → is_none (cond b (Some 0) (option_map suc (place_of_file name fs))) ≡ is_none (cond b (Some f.text) (text_of fs name))
    go true later = refl
    go false later = none_later (place_of_file name fs) ∙ later

-- How many

member_there : (files : List File) (name : List ℕ) → is_member bytes_eq (map (λ (f : File). f.name) files) name ≡ is_some (text_of files name)
member_there [] name = refl
member_there (f ∷ fs) name = rw (flipped name f.name) (go (bytes_eq f.name name) (member_there fs name))
  where
    go : (b : Bool) → is_member bytes_eq (map (λ (g : File). g.name) fs) name ≡ is_some (text_of fs name) → (b || is_member bytes_eq (map (λ (g : File). g.name) fs) name) ≡ is_some (cond b (Some f.text) (text_of fs name))
    go true later = refl
    go false later = later

-- There are as many files, where each name stands once and has the same text in both.
pub as_many : (files others : List File) → EachOnce files → EachOnce others → HaveSameTexts files others → length files ≡ length others
as_many files others once also same =
    sym (length-map files (λ (f : File). f.name))
    ∙ length-from_same_keys nat_list_eq_equiv (map (λ (f : File). f.name) files) (map (λ (f : File). f.name) others) once also
    (λ name. member_there files name ∙ ap is_some (same name) ∙ sym (member_there others name))
    ∙ length-map others (λ (f : File). f.name)
