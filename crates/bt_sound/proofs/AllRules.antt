-- All rules hold.
use Rattle.std.proofs.Common.{ℕ, List}
use Rattle.bt_style.specs.Program.{Program}
use Rattle.bt_sound.specs.Rules.{Rules}
use Rattle.bt_sound.proofs.Rules.{lead_end, lead_then, lead_more, does_number, does_words, does_quote, does_braces, does_field, does_own_number, does_own_text, does_global_number, does_global_text, does_call, does_basic, does_assign, does_double, does_cite, does_type, does_if, does_while, does_call_type}

pub all_rules : (p : Program) (types : List ℕ) → Rules p types
all_rules p types =
    record {
      ending = lead_end p types;
      going = lead_then p types;
      weaker = lead_more p types;
      number = does_number p types;
      words = does_words p types;
      quoted = does_quote p types;
      braced = does_braces p types;
      field = does_field p types;
      own_number = does_own_number p types;
      own_text = does_own_text p types;
      global_number = does_global_number p types;
      global_text = does_global_text p types;
      call = does_call p types;
      basic = does_basic p types;
      assign = does_assign p types;
      double = does_double p types;
      cite = does_cite p types;
      kind = does_type p types;
      branch = does_if p types;
      loop = does_while p types;
      call_type = does_call_type p types;
    }
