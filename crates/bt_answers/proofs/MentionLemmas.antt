-- What is said of the mention at a position, by what is known of the mention.
use Rattle.std.proofs.Common.{◌≡◌, ◌∙◌, ap, sym, ℕ, List, Bool, true, false, if◌then◌else◌, Option, Some, None, Result, Ok}
use Rattle.serde_json.specs.Data.{Data, null}
use Rattle.bt_positions.specs.declared.counting.Counting.{Counting}
use Rattle.bt_documents.specs.declared.document.Document.{Document}
use Rattle.bt_mentions.specs.declared.mention.Mention.{Mention}
use Rattle.bt_mentions.specs.Databases.{part}
use Rattle.bt_rpc.specs.declared.answers.RpcError.{RpcError}
use Rattle.bt_answers.specs.declared.references.Wanted.{Wanted}
use Rattle.bt_places.specs.Mentioning.{is_key}
use Rattle.bt_answers.specs.References.{wanted_of, asked_of, references, references_of, macro_places, macro_of}
use Rattle.bt_answers.specs.Renaming.{is_named, renamed_if_free, renamed_of}

-- where its name is mentioned
pub found_references : (files : List (List ℕ × List ℕ)) (docs : List Document) (c : Counting) (d : Document) (one : Mention) (found : Option Mention) (declared : Bool) (wanted : Wanted) (name : List ℕ) (v : Data) →
    Some one ≡ found → wanted ≡ asked_of one.role declared → name ≡ part one.from one.to d.text → v ≡ references files docs c wanted name →
    v ≡ references_of files docs c d declared found
found_references files docs c d one found declared wanted name v is by at e =
    e ∙ ap (λ (w : Wanted). references files docs c w name) by ∙ ap (references files docs c (asked_of one.role declared)) at ∙ ap (references_of files docs c d declared) is

-- where its macro is defined
pub found_macro : (files : List (List ℕ × List ℕ)) (docs : List Document) (c : Counting) (d : Document) (one : Mention) (found : Option Mention) (name : List ℕ) (v : Data) →
    Some one ≡ found → is_key one.role ≡ false → name ≡ part one.from one.to d.text → v ≡ macro_places files docs c name →
    Some v ≡ macro_of files docs c d found
found_macro files docs c d one found name v is is_macro at e =
    let all = macro_places files docs c (part one.from one.to d.text) in
    ap Some (e ∙ ap (macro_places files docs c) at) ∙ sym (ap (λ (b : Bool). if b then None else Some all) is_macro) ∙
    ap (macro_of files docs c d) is

-- the edits that give it a new name
pub found_renamed : (files : List (List ℕ × List ℕ)) (docs : List Document) (c : Counting) (d : Document) (one : Mention) (found : Option Mention) (wanted : Wanted) (name new : List ℕ)
    (r : Result Data RpcError) → Some one ≡ found → is_named d.text one ≡ true → wanted ≡ wanted_of one.role → name ≡ part one.from one.to d.text →
    r ≡ renamed_if_free files docs c wanted name new → r ≡ renamed_of files docs c d found (Some new)
found_renamed files docs c d one found wanted name new r is named by at e =
    let all = renamed_if_free files docs c (wanted_of one.role) (part one.from one.to d.text) new in
    e ∙ ap (λ (w : Wanted). renamed_if_free files docs c w name new) by ∙ ap (λ (n : List ℕ). renamed_if_free files docs c (wanted_of one.role) n new) at ∙
    sym (ap (λ (b : Bool). if b then all else Ok null) named) ∙ ap (λ (m : Option Mention). renamed_of files docs c d m (Some new)) is
