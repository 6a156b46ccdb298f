-- The names of statuses.
use Rattle.std.specs.Prelude.{ℕ, List, [], ◌∷◌, bytes_eq, codes, if◌then◌else◌}

-- each name with the number of its status (RFC 9110, section 15, and the registry that it founds)
abbrev pub status_names : List (List ℕ × ℕ)
status_names =
    (codes "Continue", 100) ∷
    (codes "SwitchingProtocols", 101) ∷
    (codes "Processing", 102) ∷
    (codes "Ok", 200) ∷
    (codes "Created", 201) ∷
    (codes "Accepted", 202) ∷
    (codes "NonAuthoritativeInformation", 203) ∷
    (codes "NoContent", 204) ∷
    (codes "ResetContent", 205) ∷
    (codes "PartialContent", 206) ∷
    (codes "MultiStatus", 207) ∷
    (codes "AlreadyReported", 208) ∷
    (codes "ImUsed", 226) ∷
    (codes "MultipleChoices", 300) ∷
    (codes "MovedPermanently", 301) ∷
    (codes "Found", 302) ∷
    (codes "SeeOther", 303) ∷
    (codes "NotModified", 304) ∷
    (codes "UseProxy", 305) ∷
    (codes "TemporaryRedirect", 307) ∷
    (codes "PermanentRedirect", 308) ∷
    (codes "BadRequest", 400) ∷
    (codes "Unauthorized", 401) ∷
    (codes "PaymentRequired", 402) ∷
    (codes "Forbidden", 403) ∷
    (codes "NotFound", 404) ∷
    (codes "MethodNotAllowed", 405) ∷
    (codes "NotAcceptable", 406) ∷
    (codes "ProxyAuthenticationRequired", 407) ∷
    (codes "RequestTimeout", 408) ∷
    (codes "Conflict", 409) ∷
    (codes "Gone", 410) ∷
    (codes "LengthRequired", 411) ∷
    (codes "PreconditionFailed", 412) ∷
    (codes "PayloadTooLarge", 413) ∷
    (codes "UriTooLong", 414) ∷
    (codes "UnsupportedMediaType", 415) ∷
    (codes "RangeNotSatisfiable", 416) ∷
    (codes "ExpectationFailed", 417) ∷
    (codes "ImATeapot", 418) ∷
    (codes "MisdirectedRequest", 421) ∷
    (codes "UnprocessableEntity", 422) ∷
    (codes "Locked", 423) ∷
    (codes "FailedDependency", 424) ∷
    (codes "UpgradeRequired", 426) ∷
    (codes "PreconditionRequired", 428) ∷
    (codes "TooManyRequests", 429) ∷
    (codes "RequestHeaderFieldsTooLarge", 431) ∷
    (codes "UnavailableForLegalReasons", 451) ∷
    (codes "InternalServerError", 500) ∷
    (codes "NotImplemented", 501) ∷
    (codes "BadGateway", 502) ∷
    (codes "ServiceUnavailable", 503) ∷
    (codes "GatewayTimeout", 504) ∷
    (codes "VersionNotSupported", 505) ∷
    (codes "VariantAlsoNegotiates", 506) ∷
    (codes "InsufficientStorage", 507) ∷
    (codes "LoopDetected", 508) ∷
    (codes "NotExtended", 510) ∷
    (codes "NetworkAuthenticationRequired", 511) ∷
    []

abbrev pub number_in : List (List ℕ × ℕ) → List ℕ → ℕ
number_in [] name = 0
number_in (entry ∷ more) name = if bytes_eq entry.0 name then entry.1 else number_in more name

-- the number of the status of this name
abbrev pub status_of : List ℕ → ℕ
status_of name = number_in status_names name
