-- The commands that are left, with room enough for their number.
use Rattle.std.proofs.Common.{◌≡◌, ℕ, zero, suc, ◌<◌, List, refl, sym, ◌∙◌, arith}
use Rattle.std.specs.Prelude.{Some, None, Result, Ok, Err}
use Rattle.bt_style.specs.declared.fault.StyleFault.{StyleFault}
use Rattle.bt_style.specs.declared.fault.StyleRefusal.{StyleRefusal}
use Rattle.bt_style.specs.declared.fault.StyleRefusal.TheVariants as refusals
use Rattle.bt_style.specs.Fault.{Fails}
use Rattle.bt_style.specs.declared.verbs.Stage.{Stage}
use Rattle.bt_style.specs.Token.{Tokens, count}
use Rattle.bt_style.specs.Program.{Program}
use Rattle.bt_style.specs.Commands.{command_at}
use Rattle.bt_style.specs.Reader.{command_word, commands_at}

-- what is left gives the whole
pub record Kept (whole : Result Program StyleFault) (stage : Stage) (p : Program) (tokens : Tokens) : Type 0 where
  pub most : ℕ
  pub enough : count tokens < most
  pub same : commands_at most stage p tokens ≡ whole

ended_at : (most : ℕ) {whole : Result Program StyleFault} (stage : Stage) (p : Program) (tokens : Tokens) → count tokens < most →
    commands_at most stage p tokens ≡ whole → command_word tokens ≡ Ok None → whole ≡ Ok p
unfolding commands_at
ended_at zero stage p tokens h e w = absurd (omega arith)
ended_at (suc most) stage p tokens h e w = sym e ∙ rw w refl

pub ended : {whole : Result Program StyleFault} (stage : Stage) (p : Program) (tokens : Tokens) → Kept whole stage p tokens →
    command_word tokens ≡ Ok None → whole ≡ Ok p
ended stage p tokens k w = ended_at k.most stage p tokens k.enough k.same w

no_word_at : (most : ℕ) {whole : Result Program StyleFault} (stage : Stage) (p : Program) (tokens : Tokens) (fault : StyleFault) → count tokens < most →
    commands_at most stage p tokens ≡ whole → command_word tokens ≡ Err fault → whole ≡ Err fault
unfolding commands_at
no_word_at zero stage p tokens fault h e w = absurd (omega arith)
no_word_at (suc most) stage p tokens fault h e w = sym e ∙ rw w refl

pub no_word : {whole : Result Program StyleFault} (stage : Stage) (p : Program) (tokens : Tokens) (fault : StyleFault) → Kept whole stage p tokens →
    command_word tokens ≡ Err fault → whole ≡ Err fault
no_word stage p tokens fault k w = no_word_at k.most stage p tokens fault k.enough k.same w

no_command_at : (most : ℕ) {whole : Result Program StyleFault} (stage : Stage) (p : Program) (tokens : Tokens) (word : List ℕ) (line : ℕ) (rest : Tokens) (fault : StyleFault) →
    count tokens < most → commands_at most stage p tokens ≡ whole → command_word tokens ≡ Ok (Some (word, line, rest)) →
    command_at stage p word line rest ≡ Err fault → whole ≡ Err fault
unfolding commands_at
no_command_at zero stage p tokens word line rest fault h e w f = absurd (omega arith)
no_command_at (suc most) stage p tokens word line rest fault h e w f = sym e ∙ rw (w, f) refl

pub no_command : {whole : Result Program StyleFault} (stage : Stage) (p : Program) (tokens : Tokens) (word : List ℕ) (line : ℕ) (rest : Tokens) (fault : StyleFault) →
    Kept whole stage p tokens → command_word tokens ≡ Ok (Some (word, line, rest)) →
    command_at stage p word line rest ≡ Err fault → whole ≡ Err fault
no_command stage p tokens word line rest fault k w f = no_command_at k.most stage p tokens word line rest fault k.enough k.same w f

one_command_at : (most : ℕ) {whole : Result Program StyleFault} (stage : Stage) (p : Program) (tokens : Tokens) (word : List ℕ) (line : ℕ) (rest : Tokens)
    (stage' : Stage) (p' : Program) (rest' : Tokens) →
    count tokens < most → commands_at most stage p tokens ≡ whole → command_word tokens ≡ Ok (Some (word, line, rest)) →
    command_at stage p word line rest ≡ Ok (stage', p', rest') → count rest' < count tokens → Kept whole stage' p' rest'
unfolding commands_at
one_command_at zero stage p tokens word line rest stage' p' rest' h e w f s = absurd (omega arith)
one_command_at (suc most) {whole} stage p tokens word line rest stage' p' rest' h e w f s =
    record { most = most; enough = omega arith; same = rw (w, f) at e }

pub one_command : {whole : Result Program StyleFault} (stage : Stage) (p : Program) (tokens : Tokens) (word : List ℕ) (line : ℕ) (rest : Tokens)
    (stage' : Stage) (p' : Program) (rest' : Tokens) →
    Kept whole stage p tokens → command_word tokens ≡ Ok (Some (word, line, rest)) →
    command_at stage p word line rest ≡ Ok (stage', p', rest') → count rest' < count tokens → Kept whole stage' p' rest'
one_command stage p tokens word line rest stage' p' rest' k w f s =
    one_command_at k.most stage p tokens word line rest stage' p' rest' k.enough k.same w f s

-- the same for what a reader of the code returned
pub word_fails : {whole : Result Program StyleFault} (e : StyleRefusal) (stage : Stage) (p : Program) (tokens : Tokens) → Kept whole stage p tokens →
    Fails e (command_word tokens) → Fails e whole
word_fails refusals.OutOfMemory stage p tokens k f = tt
word_fails (refusals.Fault kind line) stage p tokens k f = no_word stage p tokens (record { kind = kind; line = line }) k f

pub command_fails : {whole : Result Program StyleFault} (e : StyleRefusal) (stage : Stage) (p : Program) (tokens : Tokens) (word : List ℕ) (line : ℕ) (rest : Tokens) →
    Kept whole stage p tokens → command_word tokens ≡ Ok (Some (word, line, rest)) →
    Fails e (command_at stage p word line rest) → Fails e whole
command_fails refusals.OutOfMemory stage p tokens word line rest k w f = tt
command_fails (refusals.Fault kind at) stage p tokens word line rest k w f =
    no_command stage p tokens word line rest (record { kind = kind; line = at }) k w f
