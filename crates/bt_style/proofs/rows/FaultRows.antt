-- Worked examples of the faults of styles, computed.
use Rattle.std.proofs.Common.{◌≡◌, ℕ, List, Result, Err, refl, codes}
use Rattle.bt_style.specs.declared.fault.FaultKind.{FaultKind}
use Rattle.bt_style.specs.declared.fault.FaultKind.TheVariants.{UnknownCommand, CommandOrder, SecondEntry, SecondRead, NoEntry, UnknownName, NameTaken, NumberTooLarge, UnclosedText, UnclosedBrace, BadName, StrayByte, NotAFunction, MissingArgument}
use Rattle.bt_style.specs.declared.fault.StyleFault.{StyleFault}
use Rattle.bt_style.specs.Token.{tokens_after, piece_at, literal_piece}
use Rattle.bt_style.specs.Builtins.{table}
use Rattle.bt_style.specs.Program.{Program}
use Rattle.bt_style.specs.Names.{target_named, macro_named, builtin_named}
use Rattle.bt_style.specs.Declares.{names_at}
use Rattle.bt_style.specs.Elements.{word_element, number_at, size_at, quoted_at}
use Rattle.bt_style.specs.Bodies.{body_at}
use Rattle.bt_style.specs.Verbs.{verb_named, all_verbs}
use Rattle.bt_style.specs.Commands.{command_at, arguments_at}
use Rattle.bt_style.specs.Reader.{style_of, reading, commands_at}

-- what a text spells, with all that it computes by
unfoldable pub spelled : List ℕ → Result Program StyleFault
unfolding style_of tokens_after piece_at literal_piece reading commands_at command_at arguments_at body_at names_at word_element number_at size_at quoted_at verb_named all_verbs target_named macro_named builtin_named table
spelled text = style_of text

abbrev pub HasFault : List ℕ → FaultKind → ℕ → Type 0
HasFault text kind line = spelled text ≡ Err (record { kind = kind; line = line })

kind_1 : HasFault (codes "FOO") UnknownCommand 1
unfolding spelled
kind_1 = refl

kind_2 : HasFault (codes "ENTRY {}{}{}\nITERATE {skip$}") CommandOrder 2
unfolding spelled
kind_2 = refl

kind_3 : HasFault (codes "ENTRY {}{}{}\nENTRY {}{}{}") SecondEntry 2
unfolding spelled
kind_3 = refl

kind_4 : HasFault (codes "ENTRY {}{}{} READ\nREAD") SecondRead 2
unfolding spelled
kind_4 = refl

kind_5 : HasFault (codes "READ") NoEntry 1
unfolding spelled
kind_5 = refl

kind_6 : HasFault (codes "FUNCTION {f} {\ng}") UnknownName 2
unfolding spelled
kind_6 = refl

kind_7 : HasFault (codes "INTEGERS {a\nA}") NameTaken 2
unfolding spelled
kind_7 = refl

kind_8 : HasFault (codes "FUNCTION {f} {#2147483648}") NumberTooLarge 1
unfolding spelled
kind_8 = refl

kind_9 : HasFault (codes "FUNCTION {f} {\"a\nb\"}") UnclosedText 1
unfolding spelled
kind_9 = refl

kind_10 : HasFault (codes "FUNCTION {f} {skip$\n") UnclosedBrace 2
unfolding spelled
kind_10 = refl

kind_11 : HasFault (codes "INTEGERS {1a}") BadName 1
unfolding spelled
kind_11 = refl

kind_12 : HasFault (codes "FUNCTION {f} {\"a\"b}") StrayByte 1
unfolding spelled
kind_12 = refl

kind_13 : HasFault (codes "ENTRY {}{}{} READ ITERATE {sort.key$}") NotAFunction 1
unfolding spelled
kind_13 = refl

kind_14 : HasFault (codes "FUNCTION\n{f}\nskip$") MissingArgument 3
unfolding spelled
kind_14 = refl

used_before_its_definition : HasFault (codes "ENTRY {}{}{}\nFUNCTION {f} {g}\nFUNCTION {g} {skip$}\n") UnknownName 2
unfolding spelled
used_before_its_definition = refl

calls_itself : HasFault (codes "FUNCTION {f} {f}") UnknownName 1
unfolding spelled
calls_itself = refl

macro_behind_read : HasFault (codes "ENTRY {}{}{} READ\nMACRO {a}{\"b\"}") CommandOrder 2
unfolding spelled
macro_behind_read = refl

sort_before_read : HasFault (codes "SORT") CommandOrder 1
unfolding spelled
sort_before_read = refl

brace_for_a_command : HasFault (codes "\n}") StrayByte 2
unfolding spelled
brace_for_a_command = refl

open_brace_for_a_command : HasFault (codes "{") StrayByte 1
unfolding spelled
open_brace_for_a_command = refl

literal_for_a_command : HasFault (codes "\"a") UnknownCommand 1
unfolding spelled
literal_for_a_command = refl

brace_in_names : HasFault (codes "INTEGERS {a\n{b}}") UnclosedBrace 2
unfolding spelled
brace_in_names = refl

end_in_names : HasFault (codes "INTEGERS {a\n") UnclosedBrace 2
unfolding spelled
end_in_names = refl

end_for_an_argument : HasFault (codes "INTEGERS\n") MissingArgument 2
unfolding spelled
end_for_an_argument = refl

literal_in_names : HasFault (codes "INTEGERS {\"a\"}") BadName 1
unfolding spelled
literal_in_names = refl

empty_single_name : HasFault (codes "FUNCTION {\n} {}") MissingArgument 2
unfolding spelled
empty_single_name = refl

end_for_a_single_name : HasFault (codes "FUNCTION {\n") MissingArgument 2
unfolding spelled
end_for_a_single_name = refl

two_names_for_one : HasFault (codes "FUNCTION {f\ng} {}") UnclosedBrace 2
unfolding spelled
two_names_for_one = refl

literal_for_a_declared_name : HasFault (codes "FUNCTION {\"a\"} {}") BadName 1
unfolding spelled
literal_for_a_declared_name = refl

literal_for_a_used_name : HasFault (codes "ENTRY {}{}{} READ EXECUTE {\"a\"}") UnknownName 1
unfolding spelled
literal_for_a_used_name = refl

macro_without_a_text : HasFault (codes "MACRO {a}{\n}") MissingArgument 2
unfolding spelled
macro_without_a_text = refl

macro_of_a_word : HasFault (codes "MACRO {a}{b}") MissingArgument 1
unfolding spelled
macro_of_a_word = refl

macro_of_a_number : HasFault (codes "MACRO {a}{#}") MissingArgument 1
unfolding spelled
macro_of_a_number = refl

macro_text_unclosed : HasFault (codes "MACRO {a}{\"b}") UnclosedText 1
unfolding spelled
macro_text_unclosed = refl

macro_text_joined : HasFault (codes "MACRO {a}{\"b\"c}") StrayByte 1
unfolding spelled
macro_text_joined = refl

macro_of_two_texts : HasFault (codes "MACRO {a}{\"b\"\n\"c\"}") UnclosedBrace 2
unfolding spelled
macro_of_two_texts = refl

macro_taken : HasFault (codes "MACRO {a}{\"b\"}\nMACRO {A}{\"c\"}") NameTaken 2
unfolding spelled
macro_taken = refl

macro_bad_name : HasFault (codes "MACRO {1a}{\"b\"}") BadName 1
unfolding spelled
macro_bad_name = refl

minus_alone : HasFault (codes "FUNCTION {f} {#-}") StrayByte 1
unfolding spelled
minus_alone = refl

number_sign_alone : HasFault (codes "FUNCTION {f} {#") StrayByte 1
unfolding spelled
number_sign_alone = refl

number_joined : HasFault (codes "FUNCTION {f} {#1a}") StrayByte 1
unfolding spelled
number_joined = refl

too_large_and_joined : HasFault (codes "FUNCTION {f} {#9999999999a}") NumberTooLarge 1
unfolding spelled
too_large_and_joined = refl

too_small : HasFault (codes "FUNCTION {f} {#-2147483649}") NumberTooLarge 1
unfolding spelled
too_small = refl

apostrophe_alone : HasFault (codes "FUNCTION {f} {' skip$}") BadName 1
unfolding spelled
apostrophe_alone = refl

quoted_odd_bytes : HasFault (codes "FUNCTION {f} {'a\"b}") UnknownName 1
unfolding spelled
quoted_odd_bytes = refl

quoted_unknown : HasFault (codes "FUNCTION {f} {'g}") UnknownName 1
unfolding spelled
quoted_unknown = refl

crossref_declared : HasFault (codes "ENTRY {crossref}{}{}") NameTaken 1
unfolding spelled
crossref_declared = refl

sort_key_declared : HasFault (codes "ENTRY {}{}{SORT.KEY$}") NameTaken 1
unfolding spelled
sort_key_declared = refl

builtin_declared : HasFault (codes "FUNCTION {write$}{}") NameTaken 1
unfolding spelled
builtin_declared = refl

one_name_twice_in_entry : HasFault (codes "ENTRY {a}\n{a}{}") NameTaken 2
unfolding spelled
one_name_twice_in_entry = refl

entry_behind_read : HasFault (codes "ENTRY {}{}{} READ\nENTRY") SecondEntry 2
unfolding spelled
entry_behind_read = refl

execute_a_field : HasFault (codes "ENTRY {title}{}{} READ EXECUTE {title}") NotAFunction 1
unfolding spelled
execute_a_field = refl

execute_not_closed : HasFault (codes "ENTRY {}{}{} READ EXECUTE {skip$\nskip$}") UnclosedBrace 2
unfolding spelled
execute_not_closed = refl

word_before_its_braces : HasFault (codes "read {") NoEntry 1
unfolding spelled
word_before_its_braces = refl

comment_to_the_line_end : HasFault (codes "% ENTRY\n%\nFOO") UnknownCommand 3
unfolding spelled
comment_to_the_line_end = refl

end_after_comment : HasFault (codes "FUNCTION {f} {% }") UnclosedBrace 1
unfolding spelled
end_after_comment = refl

quote_in_a_number : HasFault (codes "FUNCTION {f} {#1\"a\"}") StrayByte 1
unfolding spelled
quote_in_a_number = refl

plus_in_a_number : HasFault (codes "FUNCTION {f} {#+1}") StrayByte 1
unfolding spelled
plus_in_a_number = refl

two_apostrophes : HasFault (codes "FUNCTION {f} {''a}") UnknownName 1
unfolding spelled
two_apostrophes = refl

quoted_digit : HasFault (codes "FUNCTION {f} {'1a}") UnknownName 1
unfolding spelled
quoted_digit = refl

called_digit : HasFault (codes "FUNCTION {f} {1a}") UnknownName 1
unfolding spelled
called_digit = refl

apostrophe_before_a_brace : HasFault (codes "FUNCTION {f} {'{}}") BadName 1
unfolding spelled
apostrophe_before_a_brace = refl

used_before_entry : HasFault (codes "FUNCTION {f} {title}\nENTRY {title}{}{}") UnknownName 1
unfolding spelled
used_before_entry = refl

field_named_as_a_function : HasFault (codes "FUNCTION {title}{}\nENTRY {\ntitle}{}{}") NameTaken 3
unfolding spelled
field_named_as_a_function = refl

taken_before_its_body : HasFault (codes "FUNCTION {skip$} {g}") NameTaken 1
unfolding spelled
taken_before_its_body = refl

end_right_behind_names_brace : HasFault (codes "INTEGERS {\n\n") UnclosedBrace 3
unfolding spelled
end_right_behind_names_brace = refl

execute_before_read : HasFault (codes "EXECUTE") CommandOrder 1
unfolding spelled
execute_before_read = refl

brace_for_a_name : HasFault (codes "FUNCTION {{f}}") MissingArgument 1
unfolding spelled
brace_for_a_name = refl

name_fault_before_brace_fault : HasFault (codes "ENTRY {title}{}{} READ EXECUTE {title") NotAFunction 1
unfolding spelled
name_fault_before_brace_fault = refl

end_behind_a_single_name : HasFault (codes "FUNCTION {f\n") UnclosedBrace 2
unfolding spelled
end_behind_a_single_name = refl

word_for_a_body : HasFault (codes "FUNCTION {f} skip$") MissingArgument 1
unfolding spelled
word_for_a_body = refl

macro_end_for_a_text : HasFault (codes "MACRO {a}{\n") MissingArgument 2
unfolding spelled
macro_end_for_a_text = refl

macro_brace_for_a_text : HasFault (codes "MACRO {a}{{") MissingArgument 1
unfolding spelled
macro_brace_for_a_text = refl

macro_end_behind_the_text : HasFault (codes "MACRO {a}{\"b\"\n") UnclosedBrace 2
unfolding spelled
macro_end_behind_the_text = refl

percent_in_a_literal : HasFault (codes "FUNCTION {f} {\"a%b\"c}") StrayByte 1
unfolding spelled
percent_in_a_literal = refl
