-- The result of the code's steps is what is defined on the list of all lines.
use Rattle.std.specs.Prelude.{◌&&◌, ◌||◌, not, codes, filter, fold, slice_get}
use Rattle.std.specs.List.{before_first}
use Rattle.std.specs.Option.{is_some, is_none}
use Rattle.std.proofs.lemmas.List.{map-append}
use Rattle.std.proofs.Common.{◌≡◌, ℕ, suc, ◌+◌, Bool, true, false, cond, List, [], ◌∷◌, ◌++◌, length, map, append_assoc, append-nil, Option, Some, None, refl, sym, ap, ap₂, subst, ◌∙◌, arith}
use Rattle.std.proofs.lemmas.Bool.{and_right}
use Rattle.bt_log.specs.declared.message.Message.{Message}
use Rattle.bt_bib.specs.declared.aux_line.Command.TheVariants.{Citation, Database, Style, Nested}
use Rattle.bt_job.specs.declared.files.File.{File}
use Rattle.bt_job.specs.declared.citations.Citations.{Citations}
use Rattle.bt_job.specs.declared.progress.Progress.{Progress}
use Rattle.bt_text.specs.NameList.{is_among}
use Rattle.bt_job.specs.FileNames.{is_aux, text_of, with_name}
use Rattle.bt_job.specs.Lines.{JobLine, lines_of, first_with, cited, job_lines}
use Rattle.bt_job.specs.inner.Queue.{read_on, line_count, read_all}
use Rattle.bt_job.specs.Citations.{is_star, keys_of, star_of, databases, styles, messages, file_line, missing_of, lacks, asked_by, citations, told_missing}
use Rattle.bt_job.specs.inner.Cases.{asked_from, lines_in}
use Rattle.bt_job.specs.inner.LineEffects.{told, meeting}
use Rattle.bt_job.specs.inner.NestedFiles.{file_taken, nothing_met, is_empty, missing_one, ended, rooted, asked_for}
use Rattle.bt_job.proofs.NameLemmas.{bytes_differ}
use Rattle.bt_job.proofs.EndingLemmas.{aux_ends, aux_not_base}
use Rattle.bt_job.proofs.FileLemmas.{is_base}
use Rattle.bt_job.proofs.LineLemmas.{Holds}
use Rattle.bt_job.proofs.BoundLemmas.{job_lines_queue, weight_all, unopened_all, read_end}
use Rattle.bt_job.proofs.ReadLemmas.{file_reaches}

-- The start

no_cited : cited [] ≡ []
unfolding cited
no_cited = refl

-- what holds before the root's lines
holds_first : (files : List File) (root : List ℕ) → is_aux root ≡ true → Holds files root [] (told (file_line 0 root) (meeting Nested root nothing_met))
holds_first files root ends = record {
  are_keys = ap keys_of (sym no_cited);
  is_star = ap star_of (sym no_cited);
  are_databases = refl;
  is_style = refl;
  is_log = refl;
  are_wanted = refl;
  inputs = λ n k. refl;
  bases = λ n k no. ap (λ b. b || false) (bytes_differ (λ m. not (is_base m)) root n (ap not (aux_not_base root ends)) (ap not k));
  citation = refl;
  database = refl;
  bibstyle = refl;
}

-- what the code has read of the root holds of all lines
read_holds : (files : List File) (root text : List ℕ) → is_aux root ≡ true → text_of files root ≡ Some text → Holds files root (job_lines files root) (file_taken (length files + 1) files 0 root (meeting Nested root nothing_met))
read_holds files root text ends there =
    let first = lines_in 0 root (Some text) in
    let bound = length first + line_count files in
    let next : first ++ [] ≡ first = append-nil first in
    let h = file_reaches (length files + 1) files root 0 root text [] [] (meeting Nested root nothing_met) bound there (holds_first files root ends)
    (omega (arith, weight_all files (root ∷ []))) (omega (arith, unopened_all files (root ∷ []), ap (λ (ls : List JobLine). length ls) next)) in
    let opened : read_all files root [] (lines_of files 0 root) ≡ read_on bound files root [] first = ap (λ o. read_all files root [] (lines_in 0 root o)) there in
    let padded : read_on bound files root [] first ≡ read_on bound files root [] (first ++ []) = sym (ap (read_on bound files root []) next) in
    let read : read_on bound files root [] (first ++ []) ≡ h.lines = h.same ∙ read_end h.left files root h.lines in
    let all : job_lines files root ≡ h.lines = sym (job_lines_queue files root) ∙ opened ∙ padded ∙ read in
    subst (λ ls. Holds files root ls (file_taken (length files + 1) files 0 root (meeting Nested root nothing_met))) (sym all) h.holds

-- The end

-- with more messages
abbrev logged : Progress → List Message → Progress
logged r messages = record r { log = r.log ++ messages }

lack_told : (root command nothing : List ℕ) (met none : Bool) (r : Progress) → missing_one met none command nothing root r ≡ logged r (map (told_missing root) (cond (not met) (command ∷ []) (cond none (nothing ∷ []) [])))
lack_told root command nothing false none r = refl
lack_told root command nothing true true r = refl
lack_told root command nothing true false r = ap (λ l. record r { log = l }) (sym (append-nil r.log))

-- a list that has an element
not_empty : {A : Type 0} (x : A) (xs : List A) → is_empty (x ∷ xs) ≡ false
not_empty x xs = let one : length (x ∷ xs) ≡ suc (length xs) = refl in grind (arith, one)

lack_is : (o : Option JobLine) (names : List (List ℕ)) (command nothing : List ℕ) → cond (not (is_some o)) (command ∷ []) (cond (is_empty names) (nothing ∷ []) []) ≡ missing_of o names command nothing
lack_is None names command nothing = refl
lack_is (Some line) [] command nothing = refl
lack_is (Some line) (n ∷ ns) command nothing = ap (λ b. cond b (nothing ∷ []) []) (not_empty n ns)

-- something missing, given what it is reported from
lack_by : (root command nothing : List ℕ) (met none : Bool) (o : Option JobLine) (names : List (List ℕ)) (r : Progress) → met ≡ is_some o → none ≡ is_empty names
    → missing_one met none command nothing root r ≡ logged r (map (told_missing root) (missing_of o names command nothing))
lack_by root command nothing met none o names r is_met is_none =
    lack_told root command nothing met none r
    ∙ ap (λ ls. logged r (map (told_missing root) ls)) (ap₂ (λ m e. cond (not m) (command ∷ []) (cond e (nothing ∷ []) [])) is_met is_none ∙ lack_is o names command nothing)

-- names that aren't empty stay so
more_names : (n : List ℕ) (ns names : List (List ℕ)) → is_empty (fold with_name (n ∷ ns) names) ≡ false
more_names n ns [] = not_empty n ns
more_names n ns (m ∷ ms) = go (is_among (n ∷ ns) m) (more_names n ns ms) (more_names n (ns ++ m ∷ []) ms)
  where
    go : (b : Bool) → is_empty (fold with_name (n ∷ ns) ms) ≡ false → is_empty (fold with_name (n ∷ ns ++ m ∷ []) ms) ≡ false → is_empty (fold with_name (cond b (n ∷ ns) (n ∷ ns ++ m ∷ [])) ms) ≡ false
    go true p q = p
    go false p q = q

-- no key and no `*` is nothing cited
nothing_cited : (parts : List (List ℕ)) → (is_empty (keys_of parts) && is_none (star_of parts)) ≡ is_empty parts
nothing_cited [] = refl
nothing_cited (p ∷ ps) = go (is_star p) refl ∙ sym (not_empty p ps)
  where
    go : (b : Bool) → is_star p ≡ b → (is_empty (keys_of (p ∷ ps)) && is_none (star_of (p ∷ ps))) ≡ false
    go true e =
        ap (λ b. is_empty (keys_of (p ∷ ps)) && is_none (cond (b || is_among ps (codes "*")) (Some (length (keys_of (before_first is_star (p ∷ ps))))) None)) e
        ∙ and_right (is_empty (keys_of (p ∷ ps))) false refl
    go false e =
        ap (λ b. is_empty (fold with_name [] (cond (not b) (p ∷ filter (λ part. not (is_star part)) ps) (filter (λ part. not (is_star part)) ps))) && is_none (star_of (p ∷ ps))) e
        ∙ ap (λ b. b && is_none (star_of (p ∷ ps))) (more_names p [] (filter (λ part. not (is_star part)) ps))

no_name : (names : List (List ℕ)) → is_none (slice_get names 0) ≡ is_empty names
no_name [] = refl
no_name (n ∷ ns) = sym (not_empty n ns)

-- what is missing is reported after the other messages
end_told : (files : List File) (root : List ℕ) (lines : List JobLine) (r : Progress) → Holds files root lines r → ended root r ≡ record r { log = messages files root lines ++ map (told_missing root) (lacks files lines) }
unfolding ended
end_told files root lines r h =
    let a = missing_of (first_with Citation lines) (cited lines) (codes "\\citation commands") (codes "cite keys") in
    let b = missing_of (first_with Database lines) (databases files lines) (codes "\\bibdata command") (codes "database files") in
    let c = missing_of (first_with Style lines) (styles files lines) (codes "\\bibstyle command") (codes "style file") in
    let say : List (List ℕ) → List Message = map (told_missing root) in
    let first = lack_by root (codes "\\citation commands") (codes "cite keys") r.citation_met (is_empty r.keys && is_none r.star) (first_with Citation lines) (cited lines) r h.citation
    (ap₂ (λ k s. is_empty k && is_none s) h.are_keys h.is_star ∙ nothing_cited (cited lines)) in
    let second = lack_by root (codes "\\bibdata command") (codes "database files") r.database_met (is_empty r.databases) (first_with Database lines) (databases files lines) (logged r (say a)) h.database
    (ap is_empty h.are_databases) in
    let third = lack_by root (codes "\\bibstyle command") (codes "style file") r.style_met (is_none r.style) (first_with Style lines) (styles files lines) (logged (logged r (say a)) (say b)) h.bibstyle
    (ap is_none h.is_style ∙ no_name (styles files lines)) in
    ap (λ q. missing_one r.style_met (is_none r.style) (codes "\\bibstyle command") (codes "style file") root (missing_one r.database_met (is_empty r.databases) (codes "\\bibdata command") (codes "database files") root q)) first
    ∙ ap (λ q. missing_one r.style_met (is_none r.style) (codes "\\bibstyle command") (codes "style file") root q) second
    ∙ third
    ∙ ap (λ l. record r { log = l })
    (ap (λ l. l ++ say a ++ say b ++ say c) h.is_log
    ∙ append_assoc (messages files root lines ++ say a) (say b) (say c)
    ∙ append_assoc (messages files root lines) (say a) (say b ++ say c)
    ∙ ap (λ ls. messages files root lines ++ ls)
    (sym (append_assoc (say a) (say b) (say c)) ∙ ap (λ ls. ls ++ say c) (sym (map-append (told_missing root) a b)) ∙ sym (map-append (told_missing root) (a ++ b) c)))

-- what was asked for, value by value
asked_as : (files : List File) (root : List ℕ) (lines : List JobLine) (r : Progress) → Holds files root lines r → asked_for (ended root r) ≡ asked_by files root lines
asked_as files root lines r h =
    let log = messages files root lines ++ map (told_missing root) (lacks files lines) in
    let asks : List (List ℕ) → Option ℕ → List (List ℕ) → Option (List ℕ) → List (List ℕ) → Citations =
    λ k s d t w. record { keys = k; star = s; databases = d; style = t; log = log; wanted = w } in
    ap asked_for (end_told files root lines r h)
    ∙ ap₂ (λ k s. asks k s r.databases r.style r.wanted) h.are_keys h.is_star
    ∙ ap₂ (λ d t. asks (keys_of (cited lines)) (star_of (cited lines)) d t r.wanted) h.are_databases h.is_style
    ∙ ap (asks (keys_of (cited lines)) (star_of (cited lines)) (databases files lines) (slice_get (styles files lines) 0)) h.are_wanted

-- a root that has this text, or isn't there
asked_root : (files : List File) (root : List ℕ) (o : Option (List ℕ)) → is_aux root ≡ true → text_of files root ≡ o → asked_for (rooted files root o) ≡ asked_from files root o
asked_root files root None ends is = refl
asked_root files root (Some text) ends is = asked_as files root (job_lines files root) _ (read_holds files root text ends is)

-- The result of the code's steps is what is defined on all lines.
pub citations_are : (files : List File) (root : List ℕ) → (let file = root ++ codes ".aux" in asked_for (rooted files file (text_of files file)) ≡ citations files root)
unfolding citations
citations_are files root = asked_root files (root ++ codes ".aux") (text_of files (root ++ codes ".aux")) (aux_ends root) refl
