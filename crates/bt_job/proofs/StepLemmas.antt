-- What holds of the lines so far holds with one more line, command by command.
use Rattle.std.specs.Prelude.{◌&&◌, codes, fold, slice_get}
use Rattle.std.specs.Option.{is_some, option_or}
use Rattle.std.proofs.Common.{◌≡◌, ℕ, Bool, true, false, cond, List, [], ◌∷◌, ◌++◌, append-nil, Option, Some, None, refl, sym, ap, subst, ◌∙◌}
use Rattle.bt_log.specs.declared.message.Said.TheVariants.{Words}
use Rattle.bt_log.specs.declared.message.Message.{Message}
use Rattle.bt_bib.specs.declared.aux_line.Command.{Command}
use Rattle.bt_bib.specs.declared.aux_line.Command.TheVariants.{Citation, Database, Style}
use Rattle.bt_bib.specs.declared.aux_argument.AuxFault.{AuxFault}
use Rattle.bt_bib.specs.declared.aux_line.AuxItem.{AuxItem}
use Rattle.bt_job.specs.declared.files.File.{File}
use Rattle.bt_job.specs.declared.progress.Progress.{Progress}
use Rattle.bt_job.specs.declared.progress.Outcome.TheVariants.{Wrong}
use Rattle.bt_text.specs.NameList.{is_among}
use Rattle.bt_job.specs.FileNames.{is_aux, is_file_name, with_name}
use Rattle.bt_job.specs.Lines.{line_parts, JobLine, has_command, first_with, cited, database_names, style_names, argument_fault, unless_second, line_fault}
use Rattle.bt_job.specs.Faults.{LineFault, SecondCommand, key_fault, database_fault, style_fault, right_parts}
use Rattle.bt_job.specs.Citations.{keys_of, star_of, missed, wanted, line_messages, messages}
use Rattle.bt_job.specs.inner.LineEffects.{parts_taken, is_second, second_words, command_met, item_taken}
use Rattle.bt_job.proofs.CitedLemmas.{cited_to, all_cited}
use Rattle.bt_job.proofs.EndingLemmas.{base_ends, aux_not_base}
use Rattle.bt_job.proofs.FileLemmas.{is_base, is_input, based_to, all_based}
use Rattle.bt_job.proofs.LineLemmas.{line_at, Holds, Steps, same_first, new_first, some_more, same_cited, more_cited, same_inputs, more_messages, more_wanted, fault_of_line, opens_nothing, opens_wrong, cited_missed}

-- a line that counts, whether or not it is the second of its command
pub item_is : (files : List File) (item : AuxItem) (r : Progress) (b : Bool) → is_second item.command r ≡ b
    → item_taken files item r ≡ cond b (r, Wrong (Words (second_words item.command))) (parts_taken files item.command item.fault item.parts (command_met item.command r))
unfolding item_taken
item_is files item r b is = ap (λ x. cond x (r, Wrong (Words (second_words item.command))) (parts_taken files item.command item.fault item.parts (command_met item.command r))) is

-- the databases and the style, by the first line of their command
abbrev pub bases_of : List File → Option JobLine → List (List ℕ)
bases_of files o = right_parts (database_fault files) [] (database_names (line_parts o))

abbrev pub styles_of : List File → Option JobLine → List (List ℕ)
styles_of files o = right_parts (style_fault files) [] (style_names (line_parts o))

-- a command that occurred before
pub again_first : (command : Command) (lines : List JobLine) (line first : JobLine) → has_command command line ≡ true → first_with command lines ≡ Some first → first_with command (lines ++ line ∷ []) ≡ first_with command lines
again_first command lines line first is e = new_first command lines line is ∙ ap (λ o. option_or o (Some line)) e ∙ sym e

-- a command that didn't
pub now_first : (command : Command) (lines : List JobLine) (line : JobLine) → has_command command line ≡ true → first_with command lines ≡ None → first_with command (lines ++ line ∷ []) ≡ Some line
now_first command lines line is e = new_first command lines line is ∙ ap (λ o. option_or o (Some line)) e

-- messages and wanted names of a line without a fault that says nothing
pub silent : (files : List File) (root : List ℕ) (lines : List JobLine) (line : JobLine) (log : List Message) → log ≡ messages files root lines → line_fault files root lines line ≡ None → line_messages line None ≡ []
    → log ≡ messages files root (lines ++ line ∷ [])
silent files root lines line log is e none =
    is ∙ sym (more_messages files root lines line None e ∙ ap (λ ms. messages files root lines ++ ms) none ∙ append-nil (messages files root lines))

-- messages with those of a line
pub spoken : (files : List File) (root : List ℕ) (lines : List JobLine) (line : JobLine) (log : List Message) (o : Option LineFault) → log ≡ messages files root lines → line_fault files root lines line ≡ o
    → log ++ line_messages line o ≡ messages files root (lines ++ line ∷ [])
spoken files root lines line log o is e = ap (λ ms. ms ++ line_messages line o) is ∙ sym (more_messages files root lines line o e)

-- wanted names with those of a line
pub sought : (files : List File) (root : List ℕ) (lines : List JobLine) (line : JobLine) (names : List (List ℕ)) (o : Option LineFault) → names ≡ wanted files root lines → line_fault files root lines line ≡ o
    → fold with_name names (missed o) ≡ wanted files root (lines ++ line ∷ [])
sought files root lines line names o is e = ap (λ ns. fold with_name ns (missed o)) is ∙ sym (more_wanted files root lines line o e)

-- the same if none was looked up
pub unsought : (files : List File) (root : List ℕ) (lines : List JobLine) (line : JobLine) (names : List (List ℕ)) (o : Option LineFault) → names ≡ wanted files root lines → line_fault files root lines line ≡ o → missed o ≡ []
    → names ≡ wanted files root (lines ++ line ∷ [])
unsought files root lines line names o is e none = sym (ap (fold with_name names) none) ∙ sought files root lines line names o is e

-- \citation

cited_holds : (files : List File) (root : List ℕ) (lines : List JobLine) (r : Progress) (level : ℕ) (file : List ℕ) (n : ℕ) (parts : List (List ℕ)) (end : Option AuxFault) (all : List (List ℕ)) (log : List Message)
    → Holds files root lines r → (let line = line_at level file n Citation parts end in all ≡ cited (lines ++ line ∷ []) → log ≡ messages files root (lines ++ line ∷ []) → r.wanted ≡ wanted files root (lines ++ line ∷ [])
    → Holds files root (lines ++ line ∷ []) (record r { citation_met = true; keys = keys_of all; star = star_of all; log = log }))
cited_holds files root lines r level file n parts end all log h are is_log wants =
    let line = line_at level file n Citation parts end in
    record {
      are_keys = ap keys_of are;
      is_star = ap star_of are;
      are_databases = h.are_databases ∙ sym (ap (bases_of files) (same_first Database lines line refl));
      is_style = h.is_style ∙ sym (ap (λ o. slice_get (styles_of files o) 0) (same_first Style lines line refl));
      is_log = is_log;
      are_wanted = wants;
      inputs = λ m k. h.inputs m k ∙ ap (λ ns. is_among (root ∷ ns) m) (sym (same_inputs lines line refl));
      bases = h.bases;
      citation = sym (ap is_some (new_first Citation lines line refl) ∙ some_more (first_with Citation lines) line);
      database = h.database ∙ ap is_some (sym (same_first Database lines line refl));
      bibstyle = h.bibstyle ∙ ap is_some (sym (same_first Style lines line refl));
    }

citation_by : (files : List File) (root : List ℕ) (lines : List JobLine) (r : Progress) (level : ℕ) (file : List ℕ) (n : ℕ) (parts : List (List ℕ)) (end : Option AuxFault) (all : List (List ℕ)) (o : Option LineFault)
    → Holds files root lines r → (let line = line_at level file n Citation parts end in all ≡ cited (lines ++ line ∷ []) → line_fault files root lines line ≡ o → missed o ≡ []
    → Steps files root lines line (cited_to (record r { citation_met = true }) all o))
citation_by files root lines r level file n parts end all None h are e none =
    let line = line_at level file n Citation parts end in (
      cited_holds files root lines r level file n parts end all r.log h are (silent files root lines line r.log h.is_log e refl) (unsought files root lines line r.wanted None h.are_wanted e none),
      opens_nothing files root lines line None e refl,
    )
citation_by files root lines r level file n parts end all (Some f) h are e none =
    let line = line_at level file n Citation parts end in (
      cited_holds files root lines r level file n parts end all _ h are (spoken files root lines line r.log (Some f) h.is_log e) (unsought files root lines line r.wanted (Some f) h.are_wanted e none),
      opens_wrong files root lines line f e,
    )

pub citation_steps : (files : List File) (root : List ℕ) (lines : List JobLine) (r : Progress) (level : ℕ) (file : List ℕ) (n : ℕ) (parts : List (List ℕ)) (end : Option AuxFault) → Holds files root lines r
    → (let line = line_at level file n Citation parts end in Steps files root lines line (item_taken files line.item r))
citation_steps files root lines r level file n parts end h =
    let line = line_at level file n Citation parts end in
    let o = argument_fault key_fault (cited lines) parts end in
    let all = cited lines ++ right_parts key_fault (cited lines) parts in
    let taken : item_taken files line.item r ≡ cited_to (record r { citation_met = true }) all o =
    item_is files line.item r false refl ∙ all_cited files end parts (cited lines) (record r { citation_met = true }) h.are_keys h.is_star in
    subst (Steps files root lines line) (sym taken)
    (citation_by files root lines r level file n parts end all o h (sym (more_cited lines line refl)) (fault_of_line files root lines line) (cited_missed (cited lines) end parts))

-- \bibdata

-- after another \bibdata
second_database : (files : List File) (root : List ℕ) (lines : List JobLine) (r : Progress) (level : ℕ) (file : List ℕ) (n : ℕ) (parts : List (List ℕ)) (end : Option AuxFault) (first : JobLine) → Holds files root lines r → first_with Database lines ≡ Some first
    → (let line = line_at level file n Database parts end in Steps files root lines line (item_taken files line.item r))
second_database files root lines r level file n parts end first h e =
    let line = line_at level file n Database parts end in
    let again = again_first Database lines line first refl e in
    let f = SecondCommand (codes "\\bibdata") in
    let wrong : line_fault files root lines line ≡ Some f = fault_of_line files root lines line ∙ ap (λ o. unless_second (codes "\\bibdata") o (argument_fault (database_fault files) [] (database_names parts) end)) e in
    subst (Steps files root lines line) (sym (item_is files line.item r true (h.database ∙ ap is_some e))) (
      record {
        are_keys = h.are_keys ∙ ap keys_of (sym (same_cited lines line refl));
        is_star = h.is_star ∙ ap star_of (sym (same_cited lines line refl));
        are_databases = h.are_databases ∙ sym (ap (bases_of files) again);
        is_style = h.is_style ∙ sym (ap (λ o. slice_get (styles_of files o) 0) (same_first Style lines line refl));
        is_log = spoken files root lines line r.log (Some f) h.is_log wrong;
        are_wanted = unsought files root lines line r.wanted (Some f) h.are_wanted wrong refl;
        inputs = λ m k. h.inputs m k ∙ ap (λ ns. is_among (root ∷ ns) m) (sym (same_inputs lines line refl));
        bases = h.bases;
        citation = h.citation ∙ ap is_some (sym (same_first Citation lines line refl));
        database = h.database ∙ ap is_some (sym again);
        bibstyle = h.bibstyle ∙ ap is_some (sym (same_first Style lines line refl));
      },
      opens_wrong files root lines line f wrong,
    )

-- an `.aux` name among those that can be opened
pub input_aux : (name : List ℕ) → is_input name ≡ true → is_aux name ≡ true
input_aux name h = go (is_aux name) h
  where
    go : (b : Bool) → (b && is_file_name name) ≡ true → b ≡ true
    go true e = refl
    go false e = e

based_holds : (files : List File) (root : List ℕ) (lines : List JobLine) (r : Progress) (level : ℕ) (file : List ℕ) (n : ℕ) (parts : List (List ℕ)) (end : Option AuxFault) (o : Option LineFault) (met : List (List ℕ)) (log : List Message)
    → Holds files root lines r → first_with Database lines ≡ None → ((m : List ℕ) → is_base m ≡ false → is_among met m ≡ is_among r.met m)
    → (let line = line_at level file n Database parts end in log ≡ messages files root (lines ++ line ∷ []) → line_fault files root lines line ≡ o
    → Holds files root (lines ++ line ∷ []) (record r { database_met = true; databases = r.databases ++ right_parts (database_fault files) [] (database_names parts); wanted = fold with_name r.wanted (missed o); met = met; log = log }))
based_holds files root lines r level file n parts end o met log h e keeps is_log fault =
    let line = line_at level file n Database parts end in
    let now = now_first Database lines line refl e in
    record {
      are_keys = h.are_keys ∙ ap keys_of (sym (same_cited lines line refl));
      is_star = h.is_star ∙ ap star_of (sym (same_cited lines line refl));
      are_databases = ap (λ ds. ds ++ right_parts (database_fault files) [] (database_names parts)) (h.are_databases ∙ ap (bases_of files) e) ∙ sym (ap (bases_of files) now);
      is_style = h.is_style ∙ sym (ap (λ x. slice_get (styles_of files x) 0) (same_first Style lines line refl));
      is_log = is_log;
      are_wanted = sought files root lines line r.wanted o h.are_wanted fault;
      inputs = λ m k. keeps m (aux_not_base m (input_aux m k)) ∙ h.inputs m k ∙ ap (λ ns. is_among (root ∷ ns) m) (sym (same_inputs lines line refl));
      bases = λ m k no. cc;
      citation = h.citation ∙ ap is_some (sym (same_first Citation lines line refl));
      database = sym (ap is_some now);
      bibstyle = h.bibstyle ∙ ap is_some (sym (same_first Style lines line refl));
    }

based_by : (files : List File) (root : List ℕ) (lines : List JobLine) (r : Progress) (level : ℕ) (file : List ℕ) (n : ℕ) (parts : List (List ℕ)) (end : Option AuxFault) (o : Option LineFault) (met : List (List ℕ))
    → Holds files root lines r → first_with Database lines ≡ None → ((m : List ℕ) → is_base m ≡ false → is_among met m ≡ is_among r.met m)
    → (let line = line_at level file n Database parts end in line_fault files root lines line ≡ o
    → Steps files root lines line (based_to (record r { database_met = true }) (right_parts (database_fault files) [] (database_names parts)) o met))
based_by files root lines r level file n parts end None met h e keeps fault =
    let line = line_at level file n Database parts end in
    (based_holds files root lines r level file n parts end None met r.log h e keeps (silent files root lines line r.log h.is_log fault refl) fault, opens_nothing files root lines line None fault refl)
based_by files root lines r level file n parts end (Some f) met h e keeps fault =
    let line = line_at level file n Database parts end in
    (based_holds files root lines r level file n parts end (Some f) met _ h e keeps (spoken files root lines line r.log (Some f) h.is_log fault) fault, opens_wrong files root lines line f fault)

pub database_steps : (files : List File) (root : List ℕ) (lines : List JobLine) (r : Progress) (level : ℕ) (file : List ℕ) (n : ℕ) (parts : List (List ℕ)) (end : Option AuxFault) (o : Option JobLine) → Holds files root lines r → first_with Database lines ≡ o
    → (let line = line_at level file n Database parts end in Steps files root lines line (item_taken files line.item r))
database_steps files root lines r level file n parts end (Some first) h e = second_database files root lines r level file n parts end first h e
database_steps files root lines r level file n parts end None h e =
    let line = line_at level file n Database parts end in
    let unmet : r.database_met ≡ false = h.database ∙ ap is_some e in
    let b = all_based files end parts [] (record r { database_met = true }) base_ends (λ m k. h.bases m k unmet) in
    subst (Steps files root lines line) (sym (item_is files line.item r false unmet ∙ b.is))
    (based_by files root lines r level file n parts end (argument_fault (database_fault files) [] (database_names parts) end) b.met h e b.keeps
    (fault_of_line files root lines line ∙ ap (λ o. unless_second (codes "\\bibdata") o (argument_fault (database_fault files) [] (database_names parts) end)) e))
