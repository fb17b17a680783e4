-- The labels that the papers fix.
use Rattle.std.specs.Prelude.{ℕ, Bool, ◌||◌, List}
use Rattle.slices.specs.Ascii.{ascii}
use Rattle.slices.specs.Same.{same_list}

-- of a VRK (source document 001, section 4.1)
unfoldable pub vrk_label : List ℕ
vrk_label = ascii "EAP Visited domain Root Key"

-- of a V-rRK (source document 001, section 5.1)
unfoldable pub visited_reauth_label : List ℕ
visited_reauth_label = ascii "EAP Re-authentication Root Key"

-- of a domain root key, the DSRK (RFC 5295, section 4; document 02, request 6)
unfoldable pub dsrk_label : List ℕ
dsrk_label = ascii "dsrk@ietf.org"

-- of the re-authentication root key under a DSRK, the rRK (RFC 5296, section 4.1; document 02, request 6)
unfoldable pub rrk_label : List ℕ
rrk_label = ascii "EAP Re-authentication Root Key@ietf.org"

-- exempt from the syntax of a label are the labels of a VRK, a V-rRK and RFC 5296's key, wherever they appear (document 02, request 7)
unfoldable pub exempt : List ℕ → Bool
exempt label = same_list label vrk_label || same_list label visited_reauth_label || same_list label rrk_label
