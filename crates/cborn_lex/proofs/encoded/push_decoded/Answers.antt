use Rattle.cborn_lex.proofs.encoded.push_decoded.Goals as goal

pub returns-in-Hex-clause-none : goal.returns-in-Hex-clause-none
returns-in-Hex-clause-none c = rw c.in-Hex.is c.push_hex.ensures.none

pub returns-in-Base64-clause-written : goal.returns-in-Base64-clause-written
returns-in-Base64-clause-written c = rw c.in-Base64.is c.push_base64.ensures.written

pub returns-in-Base64-clause-none : goal.returns-in-Base64-clause-none
returns-in-Base64-clause-none c = rw c.in-Base64.is c.push_base64.ensures.none
