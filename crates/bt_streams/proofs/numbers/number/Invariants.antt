use Rattle.std.proofs.Common.{◌≡◌, ◌+◌, ◌-◌, ◌*◌, ◌^◌, ◌<◌, take, true}
use Rattle.std.specs.List.{fold, list_all}
use Rattle.bt_streams.specs.Numbers.{is_digit}
use Rattle.bt_streams.proofs.numbers.number.Given as goal

abbrev pub invariant-digits : goal.invariant-digits
invariant-digits l =
    record {
      value : l.value ≡ fold (λ n b. n * 10 + (b - 48)) 0 (take l.byte-index l.word);
      digits : list_all is_digit (take l.byte-index l.word) ≡ true;
      small : l.value < 10 ^ l.byte-index;
    }
