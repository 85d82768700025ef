-- Worked examples: names there and back, and messages with the author's names.
use Rattle.std.proofs.Common.{◌≡◌, ℕ, List, [], ◌∷◌, ◌++◌, Some, None, refl}
use Rattle.std.specs.Prelude.{codes, replicate, true}
use Rattle.std.specs.Fmt.{digits}
use Rattle.bt_log.specs.declared.message.Rank.TheVariants.{Warning, Error}
use Rattle.bt_log.specs.declared.message.FileKind.TheVariants.{Bib}
use Rattle.bt_log.specs.declared.message.FileNote.TheVariants.{NotOpened}
use Rattle.bt_log.specs.declared.message.Place.TheVariants.{Line, DatabaseLine, WholeFile, Step}
use Rattle.bt_log.specs.Message.{plain, of_file, at}
use Rattle.bt_files.specs.Names.{is_own_name, session_name, author_name, with_author}
use Rattle.bt_files.specs.Messages.{put_back}

-- the name größe.bib in UTF-8
abbrev size_bib : List ℕ
size_bib = codes "gr" ++ 195 ∷ 182 ∷ 195 ∷ 159 ∷ codes "e.bib"

abbrev table : List (List ℕ)
table = codes "my thesis.aux" ∷ size_bib ∷ codes "my thesis.bib" ∷ codes "+/1.bib" ∷ codes "my x.AUX" ∷ []

-- The session's names

own_name : session_name [] (codes "chapters/one.aux") ≡ Some (codes "chapters/one.aux")
own_name = refl

own_name_with_wrong_ending : session_name [] (codes "x.AUX") ≡ Some (codes "x.AUX")
own_name_with_wrong_ending = refl

name_with_space : session_name table (codes "my thesis.aux") ≡ Some (codes "+/1.aux")
unfolding digits
name_with_space = refl

name_with_umlaut : session_name table size_bib ≡ Some (codes "+/2.bib")
unfolding digits
name_with_umlaut = refl

-- Two names that differ in their ending have two numbers.
another_ending : session_name table (codes "my thesis.bib") ≡ Some (codes "+/3.bib")
unfolding digits
another_ending = refl

-- The session admits this name, but it might stand for another.
form_of_a_stand_in : session_name table (codes "+/1.bib") ≡ Some (codes "+/4.bib")
unfolding digits
form_of_a_stand_in = refl

wrong_ending_is_dropped : session_name table (codes "my x.AUX") ≡ Some (codes "+/5")
unfolding digits
wrong_ending_is_dropped = refl

not_noted : session_name table (codes "another thesis.aux") ≡ None
not_noted = refl

-- 64 bytes are admitted, 65 aren't.
longest_own_name : is_own_name (replicate 60 97 ++ codes ".bib") ≡ true
longest_own_name = refl

too_long : session_name ((replicate 61 97 ++ codes ".bib") ∷ []) (replicate 61 97 ++ codes ".bib") ≡ Some (codes "+/1.bib")
unfolding digits
too_long = refl

empty_name : session_name ([] ∷ []) [] ≡ Some (codes "+/1")
unfolding digits
empty_name = refl

-- The author's names

its_own_author : author_name table (codes "chapters/one.aux") ≡ Some (codes "chapters/one.aux")
its_own_author = refl

author_of_number : author_name table (codes "+/2.bib") ≡ Some size_bib
unfolding digits
author_of_number = refl

author_without_ending : author_name table (codes "+/5") ≡ Some (codes "my x.AUX")
unfolding digits
author_without_ending = refl

-- Numbers that nothing has, another ending, and a spelling that is never made
no_such_number : author_name table (codes "+/6.bib") ≡ None
unfolding digits
no_such_number = refl

number_of_another_ending : author_name table (codes "+/2.aux") ≡ None
unfolding digits
number_of_another_ending = refl

number_with_a_zero : author_name table (codes "+/02.bib") ≡ None
unfolding digits
number_with_a_zero = refl

-- Tables

own_names_are_not_noted : with_author table (codes "plain.bst") ≡ table
own_names_are_not_noted = refl

each_name_once : with_author (with_author [] size_bib) size_bib ≡ size_bib ∷ []
each_name_once = refl

first_met_first : with_author (with_author [] (codes "a b.bib")) (codes "a b.aux") ≡ codes "a b.bib" ∷ codes "a b.aux" ∷ []
first_met_first = refl

-- Messages

what_it_says : put_back table (at (Line (codes "+/1.aux") 3 None) (of_file Error (NotOpened Bib) (codes "+/2.bib")))
    ≡ at (Line (codes "my thesis.aux") 3 None) (of_file Error (NotOpened Bib) size_bib)
unfolding digits
what_it_says = refl

whole_file : put_back table (at (WholeFile (codes "+/1.aux")) (plain Error (codes "I found no style file")))
    ≡ at (WholeFile (codes "my thesis.aux")) (plain Error (codes "I found no style file"))
unfolding digits
whole_file = refl

step_of_a_style : put_back (codes "my style.bst" ∷ []) (at (Step (codes "+/1.bst") 7) (plain Warning (codes "Warning--beware")))
    ≡ at (Step (codes "my style.bst") 7) (plain Warning (codes "Warning--beware"))
unfolding digits
step_of_a_style = refl

-- Words are never read for names, and a database's number names no file.
words_stay : put_back table (at (DatabaseLine 2 3 None) (plain Warning (codes "+/2.bib"))) ≡ at (DatabaseLine 2 3 None) (plain Warning (codes "+/2.bib"))
words_stay = refl

unknown_name_stays : put_back table (at (WholeFile (codes "+/9.aux")) (plain Error (codes "I found no style file")))
    ≡ at (WholeFile (codes "+/9.aux")) (plain Error (codes "I found no style file"))
unfolding digits
unknown_name_stays = refl
