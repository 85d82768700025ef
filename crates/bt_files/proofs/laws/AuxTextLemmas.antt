-- A text that is written from items is read as these items.
use Rattle.std.proofs.Common.{◌≡◌, ℕ, suc, ◌+◌, ◌-◌, ◌<◌, Bool, true, false, cond, not, List, [], ◌∷◌, ◌++◌, length, take, drop, reverse, replicate, Option, Some, None, refl, sym, ap, ◌∙◌, append_assoc, append-nil, arith, zero}
use Rattle.std.specs.Prelude.{◌||◌, codes}
use Rattle.std.specs.List.{All, slice_split, list_all, join_with_byte, position_or_len, prefix_len, suffix_len}
use Rattle.std.proofs.lemmas.Bool.{false≢true, eqb-true, false_from_ne_true}
use Rattle.std.proofs.lemmas.List.{take_at, take_all, drop_at, length_push, reverse-append}
use Rattle.std.proofs.lemmas.List.Elements.{All-nil, All-cons, All-head, All-tail, All-append, All-weaker}
use Rattle.std.proofs.lemmas.List.Splits.{slice_split_none, slice_split_at}
use Rattle.std.proofs.lemmas.List.Sums.{AllPass-from_list_all}
use Rattle.bt_text.specs.ByteTests.{is_white, is_line_feed}
use Rattle.bt_text.specs.White.{trimmed_end}
use Rattle.bt_bib.specs.declared.aux_line.Command.{Command}
use Rattle.bt_bib.specs.declared.aux_line.Command.TheVariants.{Citation, Database, Style, Nested}
use Rattle.bt_bib.specs.declared.aux_argument.AuxFault.{AuxFault}
use Rattle.bt_bib.specs.declared.aux_argument.AuxFault.TheVariants.{NoBrace, WhiteSpace, StuffAfter}
use Rattle.bt_bib.specs.declared.aux_argument.Parting.{Parting}
use Rattle.bt_bib.specs.declared.aux_argument.Parting.TheVariants.{Commas, Whole}
use Rattle.bt_bib.specs.declared.aux_line.AuxItem.{AuxItem}
use Rattle.bt_bib.specs.AuxArgument.{ends_argument, inside, after_argument, parts_in, fault_at, parts_kept, fault_of, argument_parts}
use Rattle.bt_bib.specs.inner.Cases.{is_comma, if_counted}
use Rattle.bt_bib.specs.AuxLine.{opening_of, command_of, parting, item, items_from}
use Rattle.bt_files.specs.AuxText.{comma, line_feed, written_parts, written_end, written_argument, written_item, written_from}
use Rattle.bt_files.specs.laws.AuxText.{is_part_byte, is_part, is_part_count, IsWritableItem, IsWritableFrom}

-- Bytes of a part

pub neither : (x y : Bool) → not (x || y) ≡ true → (x ≡ false) × (y ≡ false)
neither false false h = (refl, refl)
neither true y h = absurd (false≢true h)
neither false true h = absurd (false≢true h)

neither_one : (x : Bool) → not x ≡ true → x ≡ false
neither_one false h = refl
neither_one true h = absurd (false≢true h)

byte_ends_nothing : (p : Parting) (b : ℕ) → is_part_byte p b ≡ true → ends_argument b ≡ false
byte_ends_nothing Commas b h = (neither (ends_argument b) (is_comma b) h).0
byte_ends_nothing Whole b h = neither_one (ends_argument b) h

-- no byte of a text ends an argument
abbrev pub Endless : List ℕ → Type 0
Endless t = All (λ b. ends_argument b ≡ false) t

endless_part : (p : Parting) (part : List ℕ) → is_part p part ≡ true → Endless part
endless_part p part h = All-weaker (λ b. is_part_byte p b ≡ true) (λ b. ends_argument b ≡ false) (byte_ends_nothing p) part (AllPass-from_list_all (is_part_byte p) part h)

part_without_comma : (part : List ℕ) → is_part Commas part ≡ true → All (λ b. is_comma b ≡ false) part
part_without_comma part h =
    All-weaker (λ b. is_part_byte Commas b ≡ true) (λ b. is_comma b ≡ false) (λ b e. (neither (ends_argument b) (is_comma b) e).1) part
    (AllPass-from_list_all (is_part_byte Commas) part h)

-- Parts with commas between them

endless_joined : (parts : List (List ℕ)) → All Endless parts → Endless (join_with_byte comma parts)
endless_joined [] all = All-nil (λ b. ends_argument b ≡ false)
endless_joined (x ∷ []) all = All-head Endless x [] all
endless_joined (x ∷ y ∷ parts) all =
    All-append (λ b. ends_argument b ≡ false) x (comma ∷ join_with_byte comma (y ∷ parts)) (All-head Endless x (y ∷ parts) all)
    (All-cons (λ b. ends_argument b ≡ false) comma (join_with_byte comma (y ∷ parts)) refl (endless_joined (y ∷ parts) (All-tail Endless x (y ∷ parts) all)))

-- no byte of a text is a comma
abbrev Commaless : List ℕ → Type 0
Commaless t = All (λ b. is_comma b ≡ false) t

split_joined : (parts : List (List ℕ)) → 0 < length parts → All Commaless parts → slice_split is_comma (join_with_byte comma parts) ≡ parts
split_joined [] some all = absurd (omega arith)
split_joined (x ∷ []) some all = slice_split_none is_comma x (All-head Commaless x [] all)
split_joined (x ∷ y ∷ parts) some all =
    slice_split_at is_comma x comma (join_with_byte comma (y ∷ parts)) (All-head Commaless x (y ∷ parts) all) refl
    ∙ ap (λ l. x ∷ l) (split_joined (y ∷ parts) (omega arith) (All-tail Commaless x (y ∷ parts) all))

-- The argument

position_after : (xs end : List ℕ) → Endless xs → position_or_len ends_argument (xs ++ end) ≡ length xs + position_or_len ends_argument end
position_after [] end all = omega arith
position_after (x ∷ xs) end all =
    let first : ends_argument x ≡ false = All-head (λ b. ends_argument b ≡ false) x xs all in
    let later : position_or_len ends_argument (xs ++ end) ≡ length xs + position_or_len ends_argument end = position_after xs end (All-tail (λ b. ends_argument b ≡ false) x xs all) in
    let one_more : 1 + position_or_len ends_argument (xs ++ end) ≡ length (x ∷ xs) + position_or_len ends_argument end = omega (arith, later) in
    ap (λ e. cond (not e) (1 + position_or_len ends_argument (xs ++ end)) 0) first ∙ one_more

end_comes : (fault : Option AuxFault) → position_or_len ends_argument (written_end fault) ≡ 0
end_comes None = refl
end_comes (Some NoBrace) = refl
end_comes (Some WhiteSpace) = refl
end_comes (Some StuffAfter) = refl

position_of : (xs : List ℕ) (fault : Option AuxFault) → Endless xs → position_or_len ends_argument (xs ++ written_end fault) ≡ length xs
position_of xs fault all = omega (arith, position_after xs (written_end fault) all, end_comes fault)

inside_of : (xs : List ℕ) (fault : Option AuxFault) → Endless xs → inside (xs ++ written_end fault) ≡ xs
inside_of xs fault all = take_at xs (written_end fault) (position_or_len ends_argument (xs ++ written_end fault)) (sym (position_of xs fault all))

after_of : (xs : List ℕ) (fault : Option AuxFault) → Endless xs → after_argument (xs ++ written_end fault) ≡ written_end fault
after_of xs fault all = drop_at xs (written_end fault) (length (inside (xs ++ written_end fault))) (ap length (sym (inside_of xs fault all)))

end_tells : (fault : Option AuxFault) → fault_at (written_end fault) ≡ fault
end_tells None = refl
end_tells (Some NoBrace) = refl
end_tells (Some WhiteSpace) = refl
end_tells (Some StuffAfter) = refl

-- the parts that are written, and what becomes of them
all_written : (P : List ℕ → Type 0) → P (codes "x") → (fault : Option AuxFault) (parts : List (List ℕ)) → All P parts → All P (written_parts fault parts)
all_written P x None parts all = all
all_written P x (Some fault) parts all = All-append P parts (codes "x" ∷ []) all (All-cons P (codes "x") [] x (All-nil P))

kept_of : (fault : AuxFault) (parts all : List (List ℕ)) → all ≡ parts ++ codes "x" ∷ [] → parts_kept (Some fault) all ≡ parts
kept_of fault parts all is =
    ap (λ (l : List (List ℕ)). take (length l - 1) l) is
    ∙ take_at parts (codes "x" ∷ []) (length (parts ++ codes "x" ∷ []) - 1) (omega (arith, length_push parts (codes "x")))

parts_kept_of : (p : Parting) (fault : Option AuxFault) (parts : List (List ℕ)) → All (λ part. is_part p part ≡ true) parts → is_part_count p fault (length parts) ≡ true →
    parts_kept fault (parts_in p (join_with_byte comma (written_parts fault parts))) ≡ parts
parts_kept_of Commas None [] all count = absurd (false≢true count)
parts_kept_of Commas None (x ∷ parts) all count = split_joined (x ∷ parts) (omega arith) (All-weaker (λ part. is_part Commas part ≡ true) Commaless part_without_comma (x ∷ parts) all)
parts_kept_of Commas (Some fault) parts all count =
    kept_of fault parts (slice_split is_comma (join_with_byte comma (parts ++ codes "x" ∷ [])))
    (split_joined (parts ++ codes "x" ∷ []) (omega (arith, length_push parts (codes "x")))
    (All-weaker (λ part. is_part Commas part ≡ true) Commaless part_without_comma (parts ++ codes "x" ∷ [])
    (all_written (λ part. is_part Commas part ≡ true) refl (Some fault) parts all)))
parts_kept_of Whole None [] all count = absurd (false≢true count)
parts_kept_of Whole None (x ∷ []) all count = refl
parts_kept_of Whole None (x ∷ y ∷ parts) all count = absurd (omega (arith, eqb-true (length (x ∷ y ∷ parts)) 1 count))
parts_kept_of Whole (Some fault) [] all count = refl
parts_kept_of Whole (Some fault) (x ∷ parts) all count = absurd (omega (arith, eqb-true (length (x ∷ parts)) 0 count))

x_is_part : (p : Parting) → is_part p (codes "x") ≡ true
x_is_part Commas = refl
x_is_part Whole = refl

endless_written : (p : Parting) (fault : Option AuxFault) (parts : List (List ℕ)) → All (λ part. is_part p part ≡ true) parts → Endless (join_with_byte comma (written_parts fault parts))
endless_written p fault parts all =
    endless_joined (written_parts fault parts)
    (All-weaker (λ part. is_part p part ≡ true) Endless (endless_part p) (written_parts fault parts) (all_written (λ part. is_part p part ≡ true) (x_is_part p) fault parts all))

fault_written : (p : Parting) (fault : Option AuxFault) (parts : List (List ℕ)) → All (λ part. is_part p part ≡ true) parts → fault_of (written_argument parts fault) ≡ fault
fault_written p fault parts all =
    ap fault_at (after_of (join_with_byte comma (written_parts fault parts)) fault (endless_written p fault parts all)) ∙ end_tells fault

parts_written : (p : Parting) (fault : Option AuxFault) (parts : List (List ℕ)) → All (λ part. is_part p part ≡ true) parts → is_part_count p fault (length parts) ≡ true →
    argument_parts p (written_argument parts fault) ≡ parts
parts_written p fault parts all count =
    ap (λ (f : Option AuxFault). parts_kept f (parts_in p (inside (written_argument parts fault)))) (fault_written p fault parts all)
    ∙ ap (λ (t : List ℕ). parts_kept fault (parts_in p t)) (inside_of (join_with_byte comma (written_parts fault parts)) fault (endless_written p fault parts all))
    ∙ parts_kept_of p fault parts all count

-- The line

command_written : (c : Command) (rest : List ℕ) → command_of (opening_of c ++ rest) ≡ Some c
command_written Citation rest = refl
command_written Database rest = refl
command_written Style rest = refl
command_written Nested rest = refl

abbrev item_of : ℕ → Command → List (List ℕ) → Option AuxFault → AuxItem
item_of n c parts fault = record { line = n; command = c; parts = parts; fault = fault }

same_item : (n : ℕ) (c : Command) (parts now : List (List ℕ)) (fault fault_now : Option AuxFault) → parts ≡ now → fault ≡ fault_now → item_of n c parts fault ≡ item_of n c now fault_now
same_item n c parts now fault fault_now e g = λ j. item_of n c (e j) (g j)

item_written : (i : AuxItem) → IsWritableItem i → item i.line (written_item i) i.command ≡ i
item_written i is =
    let rest_is : drop (length (opening_of i.command)) (written_item i) ≡ written_argument i.parts i.fault = drop_at (opening_of i.command) (written_argument i.parts i.fault) (length (opening_of i.command)) refl in
    same_item i.line i.command (argument_parts (parting i.command) (drop (length (opening_of i.command)) (written_item i))) i.parts
    (fault_of (drop (length (opening_of i.command)) (written_item i))) i.fault
    (ap (argument_parts (parting i.command)) rest_is ∙ parts_written (parting i.command) i.fault i.parts is.parts is.count)
    (ap fault_of rest_is ∙ fault_written (parting i.command) i.fault i.parts is.parts)

-- a text whose last byte is no white space
record EndsBlack (t : List ℕ) : Type 0 where
  front : List ℕ
  last : ℕ
  is : t ≡ front ++ last ∷ []
  black : is_white last ≡ false

black_after : (o t : List ℕ) → EndsBlack t → EndsBlack (o ++ t)
black_after o t e = record {
  front = o ++ e.front;
  last = e.last;
  is = ap (λ (l : List ℕ). o ++ l) e.is ∙ sym (append_assoc o e.front (e.last ∷ []));
  black = e.black;
}

black_untrimmed : (front : List ℕ) (last : ℕ) → is_white last ≡ false → trimmed_end (front ++ last ∷ []) ≡ front ++ last ∷ []
black_untrimmed front last black =
    let none : suffix_len is_white (front ++ last ∷ []) ≡ 0 =
    ap (prefix_len is_white) (reverse-append front (last ∷ [])) ∙ ap (λ (e : Bool). cond e (1 + prefix_len is_white (reverse front)) 0) black in
    take_all (length (front ++ last ∷ []) - suffix_len is_white (front ++ last ∷ [])) (front ++ last ∷ []) (omega arith)

untrimmed : (t : List ℕ) → EndsBlack t → trimmed_end t ≡ t
untrimmed t e = ap trimmed_end e.is ∙ black_untrimmed e.front e.last e.black ∙ sym e.is

joined_ends : (parts : List (List ℕ)) → EndsBlack (join_with_byte comma (parts ++ codes "x" ∷ []))
joined_ends [] = record { front = []; last = 120; is = refl; black = refl }
joined_ends (x ∷ []) = black_after x (comma ∷ codes "x") (record { front = comma ∷ []; last = 120; is = refl; black = refl })
joined_ends (x ∷ y ∷ parts) =
    black_after x (comma ∷ join_with_byte comma (y ∷ parts ++ codes "x" ∷ [])) (black_after (comma ∷ []) (join_with_byte comma (y ∷ parts ++ codes "x" ∷ [])) (joined_ends (y ∷ parts)))

argument_ends : (parts : List (List ℕ)) (fault : Option AuxFault) → EndsBlack (written_argument parts fault)
argument_ends parts None = black_after (join_with_byte comma parts) (codes "}") (record { front = []; last = 125; is = refl; black = refl })
argument_ends parts (Some NoBrace) =
    let e : EndsBlack (join_with_byte comma (parts ++ codes "x" ∷ [])) = joined_ends parts in
    record { front = e.front; last = e.last; is = append-nil (join_with_byte comma (parts ++ codes "x" ∷ [])) ∙ e.is; black = e.black }
argument_ends parts (Some WhiteSpace) = black_after (join_with_byte comma (parts ++ codes "x" ∷ [])) (codes " }") (record { front = 32 ∷ []; last = 125; is = refl; black = refl })
argument_ends parts (Some StuffAfter) = black_after (join_with_byte comma (parts ++ codes "x" ∷ [])) (codes "}x") (record { front = 125 ∷ []; last = 120; is = refl; black = refl })

item_untrimmed : (i : AuxItem) → trimmed_end (written_item i) ≡ written_item i
item_untrimmed i = untrimmed (written_item i) (black_after (opening_of i.command) (written_argument i.parts i.fault) (argument_ends i.parts i.fault))

-- the line that is written counts as the item
counted_written : (i : AuxItem) (later : List AuxItem) → IsWritableItem i →
    if_counted i.line (trimmed_end (written_item i)) later (command_of (trimmed_end (written_item i))) ≡ i ∷ later
counted_written i later is =
    ap (λ (l : List ℕ). if_counted i.line l later (command_of l)) (item_untrimmed i)
    ∙ ap (λ (c : Option Command). if_counted i.line (written_item i) later c) (command_written i.command (written_argument i.parts i.fault))
    ∙ ap (λ (found : AuxItem). found ∷ later) (item_written i is)

-- no byte of a text is a line feed
abbrev OneLine : List ℕ → Type 0
OneLine t = All (λ b. is_line_feed b ≡ false) t

one_line : (t : List ℕ) → list_all (λ b. not (is_line_feed b)) t ≡ true → OneLine t
one_line t h = All-weaker (λ b. not (is_line_feed b) ≡ true) (λ b. is_line_feed b ≡ false) (λ b. neither_one (is_line_feed b)) t (AllPass-from_list_all (λ b. not (is_line_feed b)) t h)

endless_byte : (b : ℕ) → ends_argument b ≡ false → is_line_feed b ≡ false
endless_byte b none = false_from_ne_true (is_line_feed b) (λ e. false≢true (sym none ∙ ap ends_argument (eqb-true b 10 e)))

one_line_argument : (p : Parting) (parts : List (List ℕ)) (fault : Option AuxFault) → All (λ part. is_part p part ≡ true) parts → OneLine (written_argument parts fault)
one_line_argument p parts fault all =
    All-append (λ b. is_line_feed b ≡ false) (join_with_byte comma (written_parts fault parts)) (written_end fault)
    (All-weaker (λ b. ends_argument b ≡ false) (λ b. is_line_feed b ≡ false) endless_byte (join_with_byte comma (written_parts fault parts)) (endless_written p fault parts all))
    (one_line (written_end fault) (end_passes fault))
  where
    end_passes : (fault : Option AuxFault) → list_all (λ b. not (is_line_feed b)) (written_end fault) ≡ true
    end_passes None = refl
    end_passes (Some NoBrace) = refl
    end_passes (Some WhiteSpace) = refl
    end_passes (Some StuffAfter) = refl

one_line_item : (i : AuxItem) → IsWritableItem i → OneLine (written_item i)
one_line_item i is =
    All-append (λ b. is_line_feed b ≡ false) (opening_of i.command) (written_argument i.parts i.fault) (one_line (opening_of i.command) (opening_passes i.command))
    (one_line_argument (parting i.command) i.parts i.fault is.parts)
  where
    opening_passes : (c : Command) → list_all (λ b. not (is_line_feed b)) (opening_of c) ≡ true
    opening_passes Citation = refl
    opening_passes Database = refl
    opening_passes Style = refl
    opening_passes Nested = refl

-- The text

empty_lines : (n k m : ℕ) (t : List ℕ) → n + k ≡ m → items_from n (slice_split is_line_feed (replicate k line_feed ++ t)) ≡ items_from m (slice_split is_line_feed t)
empty_lines n zero m t is = ap (λ (number : ℕ). items_from number (slice_split is_line_feed t)) (omega arith)
empty_lines n (suc k) m t is = empty_lines (n + 1) k m t (omega arith)

-- a line, and after it those of some items
lines_after : (n : ℕ) (l : List ℕ) (items : List AuxItem) → OneLine l → IsWritableFrom (n + 1) items →
    items_from n (slice_split is_line_feed (l ++ written_from n items)) ≡ if_counted n (trimmed_end l) items (command_of (trimmed_end l))
lines_after n l [] one are =
    ap (λ (t : List ℕ). items_from n (slice_split is_line_feed t)) (append-nil l)
    ∙ ap (items_from n) (slice_split_none is_line_feed l one)
lines_after n l (i ∷ items) one are =
    let t = written_item i ++ written_from i.line items in
    let k = i.line - n - 1 in
    let gap : i.line - n ≡ suc k = omega (arith, are.0) in
    ap (λ (g : ℕ). items_from n (slice_split is_line_feed (l ++ (replicate g line_feed ++ t)))) gap
    ∙ ap (items_from n) (slice_split_at is_line_feed l line_feed (replicate k line_feed ++ t) one refl)
    ∙ ap (λ (later : List AuxItem). if_counted n (trimmed_end l) later (command_of (trimmed_end l)))
    (empty_lines (n + 1) k i.line t (omega (arith, are.0)) ∙ lines_after i.line (written_item i) items (one_line_item i are.1) are.2 ∙ counted_written i items are.1)

pub written_is_read : (items : List AuxItem) → IsWritableFrom 1 items → items_from 1 (slice_split is_line_feed (written_from 1 items)) ≡ items
written_is_read [] are = refl
written_is_read (i ∷ items) are =
    empty_lines 1 (i.line - 1) i.line (written_item i ++ written_from i.line items) (omega (arith, are.0))
    ∙ lines_after i.line (written_item i) items (one_line_item i are.1) are.2
    ∙ counted_written i items are.1
