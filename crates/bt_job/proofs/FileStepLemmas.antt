-- The same for \bibstyle and \@input, and for every line.
use Rattle.std.specs.Prelude.{codes, fold, slice_get}
use Rattle.std.specs.Option.{is_some, option_or}
use Rattle.std.proofs.Common.{◌≡◌, ℕ, ◌+◌, true, false, List, [], ◌∷◌, ◌++◌, append-nil, Option, Some, None, refl, sym, ap, subst, ◌∙◌}
use Rattle.bt_log.specs.declared.message.Message.{Message}
use Rattle.bt_bib.specs.declared.aux_line.Command.{Command}
use Rattle.bt_bib.specs.declared.aux_line.Command.TheVariants.{Citation, Database, Style, Nested}
use Rattle.bt_bib.specs.declared.aux_argument.AuxFault.{AuxFault}
use Rattle.bt_job.specs.declared.files.File.{File}
use Rattle.bt_job.specs.declared.progress.Progress.{Progress}
use Rattle.bt_job.specs.declared.progress.Outcome.TheVariants.{Taken}
use Rattle.bt_text.specs.NameList.{is_among}
use Rattle.bt_job.specs.FileNames.{is_aux, with_ending, with_name}
use Rattle.bt_job.specs.inner.Cases.{lines_opened}
use Rattle.bt_job.specs.Faults.{LineFault, SecondCommand, IllEnded, style_fault, input_fault, right_parts}
use Rattle.bt_job.specs.Lines.{JobLine, lines_of, first_with, style_names, input_names, argument_fault, unless_second, line_fault}
use Rattle.bt_job.specs.Citations.{keys_of, star_of, missed, messages}
use Rattle.bt_job.specs.inner.LineEffects.{named, going_on, item_taken}
use Rattle.bt_job.proofs.PartLemmas.{end_outcome, right_wrong, right_more, first_wrong, first_more}
use Rattle.bt_job.proofs.EndingLemmas.{base_not_aux}
use Rattle.bt_job.proofs.FileLemmas.{is_input, IsStyled, one_styled, IsInput, one_input}
use Rattle.bt_job.proofs.WholeLemmas.{IsWhole, IsPartedAs}
use Rattle.bt_job.proofs.LineLemmas.{line_at, Holds, Steps, same_first, same_cited, same_inputs, more_inputs, fault_of_line, opens_nothing, opens_wrong}
use Rattle.bt_job.proofs.StepLemmas.{item_is, bases_of, styles_of, again_first, now_first, spoken, sought, unsought, citation_steps, database_steps}

-- \bibstyle

-- after another \bibstyle
second_style : (files : List File) (root : List ℕ) (lines : List JobLine) (r : Progress) (level : ℕ) (file : List ℕ) (n : ℕ) (parts : List (List ℕ)) (end : Option AuxFault) (first : JobLine) → Holds files root lines r → first_with Style lines ≡ Some first
    → (let line = line_at level file n Style parts end in Steps files root lines line (item_taken files line.item r))
second_style files root lines r level file n parts end first h e =
    let line = line_at level file n Style parts end in
    let again = again_first Style lines line first refl e in
    let f = SecondCommand (codes "\\bibstyle") in
    let wrong : line_fault files root lines line ≡ Some f = fault_of_line files root lines line ∙ ap (λ o. unless_second (codes "\\bibstyle") o (argument_fault (style_fault files) [] (style_names parts) end)) e in
    subst (Steps files root lines line) (sym (item_is files line.item r true (h.bibstyle ∙ ap is_some e))) (
      record {
        are_keys = h.are_keys ∙ ap keys_of (sym (same_cited lines line refl));
        is_star = h.is_star ∙ ap star_of (sym (same_cited lines line refl));
        are_databases = h.are_databases ∙ sym (ap (bases_of files) (same_first Database lines line refl));
        is_style = h.is_style ∙ sym (ap (λ o. slice_get (styles_of files o) 0) again);
        is_log = spoken files root lines line r.log (Some f) h.is_log wrong;
        are_wanted = unsought files root lines line r.wanted (Some f) h.are_wanted wrong refl;
        inputs = λ m k. h.inputs m k ∙ ap (λ ns. is_among (root ∷ ns) m) (sym (same_inputs lines line refl));
        bases = h.bases;
        citation = h.citation ∙ ap is_some (sym (same_first Citation lines line refl));
        database = h.database ∙ ap is_some (sym (same_first Database lines line refl));
        bibstyle = h.bibstyle ∙ ap is_some (sym again);
      },
      opens_wrong files root lines line f wrong,
    )

-- the first \bibstyle
styled_holds : (files : List File) (root : List ℕ) (lines : List JobLine) (r : Progress) (level : ℕ) (file : List ℕ) (n : ℕ) (parts : List (List ℕ)) (end : Option AuxFault) (o : Option LineFault) (style : Option (List ℕ)) (names : List (List ℕ)) (log : List Message)
    → Holds files root lines r → first_with Style lines ≡ None → style ≡ slice_get (right_parts (style_fault files) [] (style_names parts)) 0
    → (let line = line_at level file n Style parts end in log ≡ messages files root (lines ++ line ∷ []) → line_fault files root lines line ≡ o → names ≡ fold with_name r.wanted (missed o)
    → Holds files root (lines ++ line ∷ []) (record r { style_met = true; style = style; wanted = names; log = log }))
styled_holds files root lines r level file n parts end o style names log h e is is_log fault wants =
    let line = line_at level file n Style parts end in
    let now = now_first Style lines line refl e in
    record {
      are_keys = h.are_keys ∙ ap keys_of (sym (same_cited lines line refl));
      is_star = h.is_star ∙ ap star_of (sym (same_cited lines line refl));
      are_databases = h.are_databases ∙ sym (ap (bases_of files) (same_first Database lines line refl));
      is_style = is ∙ sym (ap (λ x. slice_get (styles_of files x) 0) now);
      is_log = is_log;
      are_wanted = wants ∙ sought files root lines line r.wanted o h.are_wanted fault;
      inputs = λ m k. h.inputs m k ∙ ap (λ ns. is_among (root ∷ ns) m) (sym (same_inputs lines line refl));
      bases = h.bases;
      citation = h.citation ∙ ap is_some (sym (same_first Citation lines line refl));
      database = h.database ∙ ap is_some (sym (same_first Database lines line refl));
      bibstyle = sym (ap is_some now);
    }

-- no style was named before
no_style : (files : List File) (root : List ℕ) (lines : List JobLine) (r : Progress) → Holds files root lines r → first_with Style lines ≡ None → r.style ≡ None
no_style files root lines r h e = h.is_style ∙ ap (λ o. slice_get (styles_of files o) 0) e

-- a name of a style, given its fault
styled_by : (files : List File) (root : List ℕ) (lines : List JobLine) (r : Progress) (level : ℕ) (file : List ℕ) (n : ℕ) (part : List ℕ) (o : Option LineFault) → Holds files root lines r → first_with Style lines ≡ None
    → (let line = line_at level file n Style (part ∷ []) None in let name = with_ending (codes ".bst") part in style_fault files [] name ≡ o → IsStyled files (record r { style_met = true }) name o
    → Steps files root lines line (going_on (λ q. (q, Taken)) (named files Style name (record r { style_met = true }))))
styled_by files root lines r level file n part None h e fault here =
    let line = line_at level file n Style (part ∷ []) None in
    let name = with_ending (codes ".bst") part in
    let right : line_fault files root lines line ≡ None =
    fault_of_line files root lines line ∙ ap (λ o. unless_second (codes "\\bibstyle") o (argument_fault (style_fault files) [] (name ∷ []) None)) e
    ∙ ap (λ o. option_or o None) (first_more (style_fault files) [] name [] fault) in
    subst (λ x. Steps files root lines line (going_on (λ q. (q, Taken)) x)) (sym here) (
      styled_holds files root lines r level file n (part ∷ []) None None (Some name) r.wanted _ h e (sym (ap (λ ns. slice_get ns 0) (right_more (style_fault files) [] name [] fault)))
          (spoken files root lines line r.log None h.is_log right) right refl,
      opens_nothing files root lines line None right refl,
    )
styled_by files root lines r level file n part (Some f) h e fault here =
    let line = line_at level file n Style (part ∷ []) None in
    let name = with_ending (codes ".bst") part in
    let wrong : line_fault files root lines line ≡ Some f =
    fault_of_line files root lines line ∙ ap (λ o. unless_second (codes "\\bibstyle") o (argument_fault (style_fault files) [] (name ∷ []) None)) e
    ∙ ap (λ o. option_or o None) (first_wrong (style_fault files) [] name [] f fault) in
    subst (λ x. Steps files root lines line (going_on (λ q. (q, Taken)) x)) (sym here) (
      styled_holds files root lines r level file n (part ∷ []) None (Some f) r.style _ _ h e (no_style files root lines r h e ∙ sym (ap (λ ns. slice_get ns 0) (right_wrong (style_fault files) [] name [] f fault)))
          (spoken files root lines line r.log (Some f) h.is_log wrong) wrong refl,
      opens_wrong files root lines line f wrong,
    )

style_steps : (files : List File) (root : List ℕ) (lines : List JobLine) (r : Progress) (level : ℕ) (file : List ℕ) (n : ℕ) (parts : List (List ℕ)) (end : Option AuxFault) (o : Option JobLine) → Holds files root lines r → IsWhole parts end → first_with Style lines ≡ o
    → (let line = line_at level file n Style parts end in Steps files root lines line (item_taken files line.item r))
style_steps files root lines r level file n parts end (Some first) h whole e = second_style files root lines r level file n parts end first h e
style_steps files root lines r level file n [] None None h whole e = absurd whole
style_steps files root lines r level file n [] (Some f) None h whole e =
    let line = line_at level file n Style [] (Some f) in
    let wrong : line_fault files root lines line ≡ Some (IllEnded f) = fault_of_line files root lines line ∙ ap (λ o. unless_second (codes "\\bibstyle") o (Some (IllEnded f))) e in
    subst (Steps files root lines line) (sym (item_is files line.item r false (h.bibstyle ∙ ap is_some e) ∙ ap (λ x. (record r { style_met = true }, x)) (end_outcome (Some f)))) (
      styled_holds files root lines r level file n [] (Some f) (Some (IllEnded f)) r.style r.wanted _ h e (no_style files root lines r h e) (spoken files root lines line r.log (Some (IllEnded f)) h.is_log wrong) wrong refl,
      opens_wrong files root lines line (IllEnded f) wrong,
    )
style_steps files root lines r level file n (part ∷ []) None None h whole e =
    let line = line_at level file n Style (part ∷ []) None in
    let name = with_ending (codes ".bst") part in
    subst (Steps files root lines line) (sym (item_is files line.item r false (h.bibstyle ∙ ap is_some e)))
    (styled_by files root lines r level file n part (style_fault files [] name) h e refl (one_styled files (record r { style_met = true }) name))
style_steps files root lines r level file n (part ∷ []) (Some f) None h whole e = absurd whole
style_steps files root lines r level file n (part ∷ other ∷ parts) end None h whole e = absurd whole

-- \@input

input_holds : (files : List File) (root : List ℕ) (lines : List JobLine) (r : Progress) (level : ℕ) (file : List ℕ) (n : ℕ) (parts : List (List ℕ)) (end : Option AuxFault) (o : Option LineFault) (met names : List (List ℕ)) (log : List Message)
    → Holds files root lines r → ((m : List ℕ) → is_input m ≡ true → is_among met m ≡ is_among (root ∷ input_names lines ++ parts) m) → ((m : List ℕ) → is_aux m ≡ false → is_among met m ≡ is_among r.met m)
    → (let line = line_at level file n Nested parts end in log ≡ messages files root (lines ++ line ∷ []) → line_fault files root lines line ≡ o → names ≡ fold with_name r.wanted (missed o)
    → Holds files root (lines ++ line ∷ []) (record r { wanted = names; met = met; log = log }))
input_holds files root lines r level file n parts end o met names log h same keeps is_log fault wants =
    let line = line_at level file n Nested parts end in
    record {
      are_keys = h.are_keys ∙ ap keys_of (sym (same_cited lines line refl));
      is_star = h.is_star ∙ ap star_of (sym (same_cited lines line refl));
      are_databases = h.are_databases ∙ sym (ap (bases_of files) (same_first Database lines line refl));
      is_style = h.is_style ∙ sym (ap (λ x. slice_get (styles_of files x) 0) (same_first Style lines line refl));
      is_log = is_log;
      are_wanted = wants ∙ sought files root lines line r.wanted o h.are_wanted fault;
      inputs = λ m k. same m k ∙ ap (λ ns. is_among (root ∷ ns) m) (sym (more_inputs lines line refl));
      bases = λ m k no. keeps m (base_not_aux m k) ∙ h.bases m k no;
      citation = h.citation ∙ ap is_some (sym (same_first Citation lines line refl));
      database = h.database ∙ ap is_some (sym (same_first Database lines line refl));
      bibstyle = h.bibstyle ∙ ap is_some (sym (same_first Style lines line refl));
    }

-- a name of an `.aux` file, given its fault
input_by : (files : List File) (root : List ℕ) (lines : List JobLine) (r : Progress) (level : ℕ) (file : List ℕ) (n : ℕ) (part : List ℕ) (o : Option LineFault) → Holds files root lines r
    → (let line = line_at level file n Nested (part ∷ []) None in input_fault files (root ∷ input_names lines) part ≡ o → IsInput files r (root ∷ input_names lines) part o
    → Steps files root lines line (going_on (λ q. (q, Taken)) (named files Nested part r)))
input_by files root lines r level file n part None h fault here =
    let line = line_at level file n Nested (part ∷ []) None in
    let right : line_fault files root lines line ≡ None = fault_of_line files root lines line ∙ ap (λ o. option_or o None) (first_more (input_fault files) (root ∷ input_names lines) part [] fault) in
    subst (λ x. Steps files root lines line (going_on (λ q. (q, Taken)) x)) (sym here.is)
    (record {
      text = here.text;
      there = here.there;
      opens = ap (lines_opened files line) right ∙ append-nil (lines_of files (level + 1) part);
      new = here.new;
      more = more_inputs lines line refl;
      holds = input_holds files root lines r level file n (part ∷ []) None None (r.met ++ part ∷ []) r.wanted _ h here.inputs here.keeps (spoken files root lines line r.log None h.is_log right) right refl;
    })
input_by files root lines r level file n part (Some f) h fault here =
    let line = line_at level file n Nested (part ∷ []) None in
    let wrong : line_fault files root lines line ≡ Some f = fault_of_line files root lines line ∙ ap (λ o. option_or o None) (first_wrong (input_fault files) (root ∷ input_names lines) part [] f fault) in
    subst (λ x. Steps files root lines line (going_on (λ q. (q, Taken)) x)) (sym here.is) (
      input_holds files root lines r level file n (part ∷ []) None (Some f) here.met _ _ h here.inputs here.keeps (spoken files root lines line r.log (Some f) h.is_log wrong) wrong refl,
      opens_wrong files root lines line f wrong,
    )

input_steps : (files : List File) (root : List ℕ) (lines : List JobLine) (r : Progress) (level : ℕ) (file : List ℕ) (n : ℕ) (parts : List (List ℕ)) (end : Option AuxFault) → Holds files root lines r → IsWhole parts end
    → (let line = line_at level file n Nested parts end in Steps files root lines line (item_taken files line.item r))
input_steps files root lines r level file n [] None h whole = absurd whole
input_steps files root lines r level file n [] (Some f) h whole =
    let line = line_at level file n Nested [] (Some f) in
    let wrong : line_fault files root lines line ≡ Some (IllEnded f) = fault_of_line files root lines line in
    subst (Steps files root lines line) (sym (item_is files line.item r false refl ∙ ap (λ x. (r, x)) (end_outcome (Some f)))) (
      input_holds files root lines r level file n [] (Some f) (Some (IllEnded f)) r.met r.wanted _ h (λ m k. h.inputs m k ∙ ap (λ ns. is_among (root ∷ ns) m) (sym (append-nil (input_names lines)))) (λ m k. refl)
          (spoken files root lines line r.log (Some (IllEnded f)) h.is_log wrong) wrong refl,
      opens_wrong files root lines line (IllEnded f) wrong,
    )
input_steps files root lines r level file n (part ∷ []) None h whole =
    let line = line_at level file n Nested (part ∷ []) None in
    subst (Steps files root lines line) (sym (item_is files line.item r false refl))
    (input_by files root lines r level file n part (input_fault files (root ∷ input_names lines) part) h refl (one_input files r (root ∷ input_names lines) part h.inputs))
input_steps files root lines r level file n (part ∷ []) (Some f) h whole = absurd whole
input_steps files root lines r level file n (part ∷ other ∷ parts) end h whole = absurd whole

-- Every line

steps_by : (files : List File) (root : List ℕ) (lines : List JobLine) (r : Progress) (level : ℕ) (file : List ℕ) (n : ℕ) (c : Command) (parts : List (List ℕ)) (end : Option AuxFault) → Holds files root lines r → IsPartedAs c parts end
    → (let line = line_at level file n c parts end in Steps files root lines line (item_taken files line.item r))
steps_by files root lines r level file n Citation parts end h parted = citation_steps files root lines r level file n parts end h
steps_by files root lines r level file n Database parts end h parted = database_steps files root lines r level file n parts end (first_with Database lines) h refl
steps_by files root lines r level file n Style parts end h parted = style_steps files root lines r level file n parts end (first_with Style lines) h parted refl
steps_by files root lines r level file n Nested parts end h parted = input_steps files root lines r level file n parts end h parted

-- what holds of the lines so far holds with one more line
pub line_steps : (files : List File) (root : List ℕ) (lines : List JobLine) (r : Progress) (line : JobLine) → Holds files root lines r → IsPartedAs line.item.command line.item.parts line.item.fault
    → Steps files root lines line (item_taken files line.item r)
line_steps files root lines r line h parted = steps_by files root lines r line.level line.file line.item.line line.item.command line.item.parts line.item.fault h parted
