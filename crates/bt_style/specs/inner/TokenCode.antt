-- Tokens are a set, which a ghost field of them wants: each is stored as a number and bytes. No part of the meaning.
use Rattle.std.specs.Prelude.{◌≡◌, ℕ, zero, suc, List, [], ◌∷◌}
use Rattle.std.proofs.Common.{refl, ap}
use Rattle.std.specs.Coded.{Coded, code_by, coded×, coded_ℕ, coded_list}
use Rattle.bt_style.specs.Token.{Token, Open, Close, Word, Literal, Unclosed, Glued, Tokens, AtEnd, Front}

abbrev pub stored : Token → ℕ × List ℕ
stored Open = (0, [])
stored Close = (1, [])
stored (Word bytes) = (2, bytes)
stored (Literal bytes) = (3, bytes)
stored Unclosed = (4, [])
stored Glued = (5, [])

abbrev pub token_at : ℕ → List ℕ → Token
token_at zero bytes = Open
token_at (suc zero) bytes = Close
token_at (suc (suc zero)) bytes = Word bytes
token_at (suc (suc (suc zero))) bytes = Literal bytes
token_at (suc (suc (suc (suc zero)))) bytes = Unclosed
token_at (suc (suc (suc (suc (suc n))))) bytes = Glued

pub token_at-stored : (token : Token) → token_at (stored token).0 (stored token).1 ≡ token
token_at-stored Open = refl
token_at-stored Close = refl
token_at-stored (Word bytes) = refl
token_at-stored (Literal bytes) = refl
token_at-stored Unclosed = refl
token_at-stored Glued = refl

abbrev pub token_code : Coded Token
token_code = code_by (ℕ × List ℕ) (coded× coded_ℕ (coded_list coded_ℕ)) stored (λ p. token_at p.0 p.1) token_at-stored

-- tokens as a list with the line at their end
abbrev pub tokens_in : Tokens → List (Token × ℕ)
tokens_in (AtEnd line) = []
tokens_in (Front token line rest) = (token, line) ∷ tokens_in rest

abbrev pub last_line : Tokens → ℕ
last_line (AtEnd line) = line
last_line (Front token line rest) = last_line rest

abbrev pub tokens_from : List (Token × ℕ) → ℕ → Tokens
tokens_from [] last = AtEnd last
tokens_from (first ∷ rest) last = Front first.0 first.1 (tokens_from rest last)

pub tokens_from-tokens_in : (tokens : Tokens) → tokens_from (tokens_in tokens) (last_line tokens) ≡ tokens
tokens_from-tokens_in (AtEnd line) = refl
tokens_from-tokens_in (Front token line rest) = ap (Front token line) (tokens_from-tokens_in rest)

abbrev pub tokens_code : Coded Tokens
tokens_code =
    code_by (List (Token × ℕ) × ℕ) (coded× (coded_list (coded× token_code coded_ℕ)) coded_ℕ)
    (λ ts. (tokens_in ts, last_line ts)) (λ p. tokens_from p.0 p.1) tokens_from-tokens_in
