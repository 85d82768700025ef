-- A line that counts: the code's steps, and what is defined on all lines with this one at the end.
use Rattle.std.specs.Prelude.{fold, filter, flat_map, slice_get}
use Rattle.std.specs.Option.{is_some, option_or, option_map}
use Rattle.std.specs.Str.{bytes_eq}
use Rattle.std.proofs.lemmas.List.Elements.{filter-append}
use Rattle.std.proofs.lemmas.List.Sums.{fold-append}
use Rattle.std.proofs.lemmas.List.Folds.{find-append}
use Rattle.std.proofs.lemmas.Grind.{flat_map-append}
use Rattle.std.proofs.Common.{◌≡◌, ℕ, ◌+◌, Bool, true, false, cond, List, [], ◌∷◌, ◌++◌, append_assoc, append-nil, Option, Some, None, refl, sym, ap, ◌∙◌}
use Rattle.bt_bib.specs.declared.aux_line.Command.{Command}
use Rattle.bt_bib.specs.declared.aux_line.Command.TheVariants.{Citation, Database, Style, Nested}
use Rattle.bt_bib.specs.declared.aux_argument.AuxFault.{AuxFault}
use Rattle.bt_job.specs.declared.files.File.{File}
use Rattle.bt_job.specs.declared.progress.Progress.{Progress}
use Rattle.bt_job.specs.declared.progress.Outcome.{Outcome}
use Rattle.bt_job.specs.declared.progress.Outcome.TheVariants.{Taken, Wrong, Opens}
use Rattle.bt_text.specs.NameList.{is_among}
use Rattle.bt_job.specs.FileNames.{text_of, with_name, each_once}
use Rattle.bt_job.specs.Faults.{LineFault, SecondStar, OtherSpelling, IllEnded, key_fault, right_parts}
use Rattle.bt_job.specs.inner.Cases.{spelling_fault, lines_opened, command_fault}
use Rattle.bt_job.specs.Lines.{JobLine, lines_of, has_command, first_with, cited, input_names, argument_fault, line_fault, opened_by}
use Rattle.bt_job.specs.Citations.{keys_of, star_of, databases, styles, missed, along, wanted, file_line, line_messages, messages}
use Rattle.bt_job.specs.inner.LineEffects.{told, logged_at}
use Rattle.bt_job.proofs.PartLemmas.{first_wrong, first_more}
use Rattle.bt_job.proofs.FileLemmas.{is_base, is_input}

-- a line of a command
abbrev pub line_at : ℕ → List ℕ → ℕ → Command → List (List ℕ) → Option AuxFault → JobLine
line_at level file n c parts end = record { level = level; file = file; item = record { line = n; command = c; parts = parts; fault = end } }

-- What the code's steps keep is what is defined on the lines so far.
pub record Holds (files : List File) (root : List ℕ) (lines : List JobLine) (r : Progress) : Type 0 where
  pub are_keys : r.keys ≡ keys_of (cited lines)
  pub is_star : r.star ≡ star_of (cited lines)
  pub are_databases : r.databases ≡ databases files lines
  pub is_style : r.style ≡ slice_get (styles files lines) 0
  pub is_log : r.log ≡ messages files root lines
  pub are_wanted : r.wanted ≡ wanted files root lines
  pub inputs : (n : List ℕ) → is_input n ≡ true → is_among r.met n ≡ is_among (root ∷ input_names lines) n
  pub bases : (n : List ℕ) → is_base n ≡ true → r.database_met ≡ false → is_among r.met n ≡ false
  pub citation : r.citation_met ≡ is_some (first_with Citation lines)
  pub database : r.database_met ≡ is_some (first_with Database lines)
  pub bibstyle : r.style_met ≡ is_some (first_with Style lines)

-- One more line

or_nothing : (o : Option JobLine) → option_or o None ≡ o
or_nothing None = refl
or_nothing (Some x) = refl

pub some_more : (o : Option JobLine) (line : JobLine) → is_some (option_or o (Some line)) ≡ true
some_more None line = refl
some_more (Some x) line = refl

-- no line of this command
pub same_first : (command : Command) (lines : List JobLine) (line : JobLine) → has_command command line ≡ false → first_with command (lines ++ line ∷ []) ≡ first_with command lines
same_first command lines line other =
    find-append (has_command command) lines (line ∷ [])
    ∙ ap (λ b. option_or (first_with command lines) (cond b (Some line) None)) other
    ∙ or_nothing (first_with command lines)

pub new_first : (command : Command) (lines : List JobLine) (line : JobLine) → has_command command line ≡ true → first_with command (lines ++ line ∷ []) ≡ option_or (first_with command lines) (Some line)
new_first command lines line is = find-append (has_command command) lines (line ∷ []) ∙ ap (λ b. option_or (first_with command lines) (cond b (Some line) None)) is

pub same_cited : (lines : List JobLine) (line : JobLine) → has_command Citation line ≡ false → cited (lines ++ line ∷ []) ≡ cited lines
unfolding cited
same_cited lines line other =
    ap (fold (λ before l. before ++ right_parts key_fault before l.item.parts) [])
    (filter-append (has_command Citation) lines (line ∷ []) ∙ ap (λ b. filter (has_command Citation) lines ++ cond b (line ∷ []) []) other ∙ append-nil (filter (has_command Citation) lines))

pub more_cited : (lines : List JobLine) (line : JobLine) → has_command Citation line ≡ true → cited (lines ++ line ∷ []) ≡ cited lines ++ right_parts key_fault (cited lines) line.item.parts
unfolding cited
more_cited lines line is =
    ap (fold (λ before l. before ++ right_parts key_fault before l.item.parts) [])
    (filter-append (has_command Citation) lines (line ∷ []) ∙ ap (λ b. filter (has_command Citation) lines ++ cond b (line ∷ []) []) is)
    ∙ fold-append (λ before l. before ++ right_parts key_fault before l.item.parts) [] (filter (has_command Citation) lines) (line ∷ [])

pub same_inputs : (lines : List JobLine) (line : JobLine) → has_command Nested line ≡ false → input_names (lines ++ line ∷ []) ≡ input_names lines
same_inputs lines line other =
    ap (flat_map (λ l. l.item.parts))
    (filter-append (has_command Nested) lines (line ∷ []) ∙ ap (λ b. filter (has_command Nested) lines ++ cond b (line ∷ []) []) other ∙ append-nil (filter (has_command Nested) lines))

pub more_inputs : (lines : List JobLine) (line : JobLine) → has_command Nested line ≡ true → input_names (lines ++ line ∷ []) ≡ input_names lines ++ line.item.parts
more_inputs lines line is =
    ap (flat_map (λ l. l.item.parts))
    (filter-append (has_command Nested) lines (line ∷ []) ∙ ap (λ b. filter (has_command Nested) lines ++ cond b (line ∷ []) []) is)
    ∙ flat_map-append (λ l. l.item.parts) (filter (has_command Nested) lines) (line ∷ [])
    ∙ ap (λ ps. input_names lines ++ ps) (append-nil line.item.parts)

along-append : {A : Type 0} (f : List JobLine → JobLine → List A) (before lines : List JobLine) (line : JobLine) → along f before (lines ++ line ∷ []) ≡ along f before lines ++ f (before ++ lines) line
along-append f before [] line = append-nil (f before line) ∙ ap (λ b. f b line) (sym (append-nil before))
along-append f before (l ∷ ls) line =
    ap (λ xs. f before l ++ xs) (along-append f (before ++ l ∷ []) ls line ∙ ap (λ b. along f (before ++ l ∷ []) ls ++ f b line) (append_assoc before (l ∷ []) ls))
    ∙ sym (append_assoc (f before l) (along f (before ++ l ∷ []) ls) (f (before ++ l ∷ ls) line))

pub more_messages : (files : List File) (root : List ℕ) (lines : List JobLine) (line : JobLine) (o : Option LineFault) → line_fault files root lines line ≡ o
    → messages files root (lines ++ line ∷ []) ≡ messages files root lines ++ line_messages line o
more_messages files root lines line o is =
    ap (λ ms. file_line 0 root ∷ ms)
    (along-append (λ before l. line_messages l (line_fault files root before l)) [] lines line
    ∙ ap (λ x. along (λ before l. line_messages l (line_fault files root before l)) [] lines ++ line_messages line x) is)

pub more_wanted : (files : List File) (root : List ℕ) (lines : List JobLine) (line : JobLine) (o : Option LineFault) → line_fault files root lines line ≡ o
    → wanted files root (lines ++ line ∷ []) ≡ fold with_name (wanted files root lines) (missed o)
more_wanted files root lines line o is =
    ap each_once (along-append (λ before l. missed (line_fault files root before l)) [] lines line ∙ ap (λ x. along (λ before l. missed (line_fault files root before l)) [] lines ++ missed x) is)
    ∙ fold-append with_name [] (along (λ before l. missed (line_fault files root before l)) [] lines) (missed o)

pub fault_of_line : (files : List File) (root : List ℕ) (lines : List JobLine) (line : JobLine) → line_fault files root lines line ≡ command_fault files root lines line.item.command line.item.parts line.item.fault
unfolding line_fault
fault_of_line files root lines line = refl

-- A line opens a file that no line in front opens.
pub record Nests (files : List File) (root : List ℕ) (lines : List JobLine) (line : JobLine) (name : List ℕ) (r : Progress) : Type 0 where
  pub text : List ℕ
  pub there : text_of files name ≡ Some text
  pub opens : opened_by files root lines line ≡ lines_of files (line.level + 1) name
  pub new : is_among (root ∷ input_names lines) name ≡ false
  pub more : input_names (lines ++ line ∷ []) ≡ input_names lines ++ name ∷ []
  pub holds : Holds files root (lines ++ line ∷ []) r

-- After a line: the same holds with it at the end, once its message is reported; and what it opens.
abbrev pub Steps : List File → List ℕ → List JobLine → JobLine → Progress × Outcome → Type 0
Steps files root lines line (r, Taken) = Holds files root (lines ++ line ∷ []) r × (opened_by files root lines line ≡ [])
Steps files root lines line (r, Wrong said) = Holds files root (lines ++ line ∷ []) (logged_at line.file line.item.line said r) × (opened_by files root lines line ≡ [])
Steps files root lines line (r, Opens name) =
    Nests files root lines line name (told (file_line (line.level + 1) name) r)

-- a line that isn't wrong, of a command that opens nothing
pub opens_nothing : (files : List File) (root : List ℕ) (lines : List JobLine) (line : JobLine) (o : Option LineFault) → line_fault files root lines line ≡ o → has_command Nested line ≡ false → opened_by files root lines line ≡ []
opens_nothing files root lines line None is other = ap (lines_opened files line) is ∙ ap (λ b. cond b (flat_map (lines_of files (line.level + 1)) line.item.parts) []) other
opens_nothing files root lines line (Some f) is other = ap (lines_opened files line) is

pub opens_wrong : (files : List File) (root : List ℕ) (lines : List JobLine) (line : JobLine) (f : LineFault) → line_fault files root lines line ≡ Some f → opened_by files root lines line ≡ []
opens_wrong files root lines line f is = ap (lines_opened files line) is

-- \citation

-- nothing is looked up
key_missed : (s a : Bool) (part : List ℕ) (o : Option (List ℕ)) → missed (cond s (cond a (Some SecondStar) None) (spelling_fault part o)) ≡ []
key_missed true true part o = refl
key_missed true false part o = refl
key_missed false a part None = refl
key_missed false a part (Some old) = go (bytes_eq old part)
  where
    go : (b : Bool) → missed (cond b None (Some (OtherSpelling part old))) ≡ []
    go true = refl
    go false = refl

end_missed : (end : Option AuxFault) → missed (option_map IllEnded end) ≡ []
end_missed None = refl
end_missed (Some f) = refl

pub cited_missed : (parts : List (List ℕ)) (end : Option AuxFault) (later : List (List ℕ)) → missed (argument_fault key_fault parts later end) ≡ []
cited_missed parts end [] = end_missed end
cited_missed parts end (part ∷ later) = go (key_fault parts part) refl (key_missed _ _ part _) (cited_missed (parts ++ part ∷ []) end later)
  where
    go : (o : Option LineFault) → key_fault parts part ≡ o → missed (key_fault parts part) ≡ [] → missed (argument_fault key_fault (parts ++ part ∷ []) later end) ≡ [] → missed (argument_fault key_fault parts (part ∷ later) end) ≡ []
    go None e one more = ap (λ o. missed (option_or o (option_map IllEnded end))) (first_more key_fault parts part later e) ∙ more
    go (Some f) e one more = ap (λ o. missed (option_or o (option_map IllEnded end))) (first_wrong key_fault parts part later f e) ∙ sym (ap missed e) ∙ one
