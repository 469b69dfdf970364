-- What is answered where a token is lacking or may not write.
use Rattle.std.specs.Prelude.{◌≡◌, [], ◌∷◌, codes}
use Rattle.http1.specs.Fields.{Header}
use Rattle.http_server.specs.declared.response.Response.{Response}
use Rattle.http_server.specs.Response.{IsResponse, fields_of}
use Rattle.cue_doors.specs.declared.keys.KeyRefusal.{KeyRefusal}
use Rattle.cue_doors.specs.declared.keys.KeyRefusal.TheVariants.{Unauthorized, Forbidden}

-- the field that asks for a token
abbrev pub token_field : Header
token_field = (codes "www-authenticate", codes "Bearer")

-- 401 with the field that asks for a token and no body, or 403 with no field
abbrev pub IsKeyAnswer : KeyRefusal → Response → Type 0
IsKeyAnswer Unauthorized response = IsResponse 401 (token_field ∷ []) [] response
IsKeyAnswer Forbidden response = (response.status ≡ 403) × (fields_of response ≡ [])
