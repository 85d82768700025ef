-- What names and `:=` make of a state. What is read is told apart at once, by whether a text is blank and by whether a
-- number is above 0, so that later tests of it are decided.
use Rattle.std.specs.Prelude.{ℕ, ℤ, pos, Bool, true, false, not, List, [], ◌∷◌, Option, Some, None, int_lt, if◌then◌else◌, slice_index_or, slice_set, option_map}
use Rattle.bt_style.specs.declared.style.Target.{Target}
use Rattle.bt_style.specs.declared.style.Target.TheVariants.{EntryNumber, EntryText, GlobalNumber, GlobalText}
use Rattle.bt_actions.specs.Item.{Name}
use Rattle.bt_sound.specs.Known.{Range, May, Known, Number, Text, Run, KnownVariables, KnownEntry, State, holding, any_field, any_text, exactly, is_under}

-- a state where something is so
abbrev pub when : Bool → State → List State → List State
when true s ss = s ∷ ss
when false s ss = ss

abbrev pub pushing : Known → State → State
pushing k s = holding (k ∷ s.stack) s

-- the three cases of a field's value

abbrev pub only_missing : May
only_missing = record { missing = true; blank = false; inked = false }

abbrev pub only_blank : May
only_blank = record { missing = false; blank = true; inked = false }

abbrev pub only_inked : May
only_inked = record { missing = false; blank = false; inked = true }

-- the two cases of a text, each with what is then known of where it stands
abbrev pub text_states : May → (May → State) → List State
text_states m put =
    when m.blank (pushing (Text only_blank) (put only_blank)) (when m.inked (pushing (Text only_inked) (put only_inked)) [])

abbrev pub field_states : May → (May → State) → List State
field_states m put = when m.missing (pushing (Text only_missing) (put only_missing)) (text_states m put)

-- the state after a text above these values was copied that is so
abbrev pub doubled_case : May → List Known → State → State
doubled_case m ks s = pushing (Text m) (holding (Text m ∷ ks) s)

-- the top twice, where a text is told apart as if it were read
abbrev pub doubled : List Known → State → Option (List State)
doubled [] s = None
doubled (Text m ∷ ks) s = Some (field_states m (λ n. holding (Text n ∷ ks) s))
doubled (Number r ∷ ks) s = Some (holding (Number r ∷ Number r ∷ ks) s ∷ [])
doubled (Run c ∷ ks) s = Some (holding (Run c ∷ Run c ∷ ks) s ∷ [])

-- the numbers of a range that are not above 0, and those that are

abbrev pub capped : Option ℤ → ℤ
capped None = pos 0
capped (Some h) = if int_lt h (pos 0) then h else pos 0

abbrev pub raised : Option ℤ → ℤ
raised None = pos 1
raised (Some l) = if int_lt l (pos 1) then pos 1 else l

abbrev pub upto_zero : Range → Range
upto_zero r = record { low = r.low; high = Some (capped r.high) }

abbrev pub above_zero : Range → Range
above_zero r = record { low = Some (raised r.low); high = r.high }

-- whether there may be such a number
abbrev pub is_open : Range → Bool
is_open r = not (is_under r.high r.low)

abbrev pub number_states : Range → (Range → State) → List State
number_states r put =
    when (is_open (upto_zero r)) (pushing (Number (upto_zero r)) (put (upto_zero r)))
    (when (is_open (above_zero r)) (pushing (Number (above_zero r)) (put (above_zero r))) [])

-- what is known of variables, with one that is known anew

abbrev pub number_known : ℕ → Range → KnownVariables → KnownVariables
number_known n r k = record k { numbers = slice_set k.numbers n r }

abbrev pub text_known : ℕ → May → KnownVariables → KnownVariables
text_known n m k = record k { texts = slice_set k.texts n m }

abbrev pub field_known : ℕ → May → KnownEntry → KnownEntry
field_known n m k = record k { fields = slice_set k.fields n m }

abbrev pub of_globals : KnownVariables → State → State
of_globals k s = record s { globals = k }

abbrev pub of_own : KnownEntry → State → State
of_own k s = record s { entry = Some k }

abbrev pub of_variables : KnownEntry → State → KnownVariables → State
of_variables k s v = of_own (record k { variables = v }) s

-- the state after a name was read whose value is so

abbrev pub field_case : ℕ → May → KnownEntry → State → State
field_case n m k s = pushing (Text m) (of_own (field_known n m k) s)

abbrev pub own_number_case : ℕ → Range → KnownEntry → State → State
own_number_case n r k s = pushing (Number r) (of_variables k s (number_known n r k.variables))

abbrev pub own_text_case : ℕ → May → KnownEntry → State → State
own_text_case n m k s = pushing (Text m) (of_variables k s (text_known n m k.variables))

abbrev pub global_number_case : ℕ → Range → State → State
global_number_case n r s = pushing (Number r) (of_globals (number_known n r s.globals) s)

abbrev pub global_text_case : ℕ → May → State → State
global_text_case n m s = pushing (Text m) (of_globals (text_known n m s.globals) s)

-- names that are read

abbrev pub field_read : ℕ → State → Option (List State)
field_read n s =
    option_map (λ k. field_states (slice_index_or k.fields n any_field) (λ m. of_own (field_known n m k) s)) s.entry

abbrev pub own_number_read : ℕ → State → Option (List State)
own_number_read n s =
    option_map (λ k. number_states (slice_index_or k.variables.numbers n (exactly (pos 0))) (λ r. of_variables k s (number_known n r k.variables))) s.entry

abbrev pub own_text_read : ℕ → State → Option (List State)
own_text_read n s =
    option_map (λ k. text_states (slice_index_or k.variables.texts n only_blank) (λ m. of_variables k s (text_known n m k.variables))) s.entry

abbrev pub global_number_read : ℕ → State → List State
global_number_read n s =
    number_states (slice_index_or s.globals.numbers n (exactly (pos 0))) (λ r. of_globals (number_known n r s.globals) s)

abbrev pub global_text_read : ℕ → State → List State
global_text_read n s =
    text_states (slice_index_or s.globals.texts n only_blank) (λ m. of_globals (text_known n m s.globals) s)

-- the key and the type of the entry
abbrev pub entry_text_read : State → Option (List State)
entry_text_read s = option_map (λ k. pushing (Text any_text) s ∷ []) s.entry

-- a name that gets a value

abbrev pub number_put : ℕ → Known → KnownVariables → Option KnownVariables
number_put n (Number r) k = Some (number_known n r k)
number_put n _ k = None

abbrev pub text_put : ℕ → Known → KnownVariables → Option KnownVariables
text_put n (Text m) k = if m.missing then None else Some (text_known n m k)
text_put n _ k = None

abbrev pub own_put : (KnownVariables → Option KnownVariables) → State → Option KnownEntry → Option State
own_put put s None = None
own_put put s (Some k) = option_map (of_variables k s) (put k.variables)

abbrev pub value_put : Target → Known → State → Option State
value_put (EntryNumber n) v s = own_put (number_put n v) s s.entry
value_put (EntryText n) v s = own_put (text_put n v) s s.entry
value_put (GlobalNumber n) v s = option_map (λ k. of_globals k s) (number_put n v s.globals)
value_put (GlobalText n) v s = option_map (λ k. of_globals k s) (text_put n v s.globals)
value_put t v s = None

-- `:=`
abbrev pub assigning : List Known → State → Option State
assigning (Run (Name t) ∷ v ∷ ks) s = value_put t v (holding ks s)
assigning _ s = None
