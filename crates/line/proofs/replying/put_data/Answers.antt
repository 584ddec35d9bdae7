use Rattle.std.proofs.Common.{refl, inl, inr}
use Rattle.line.proofs.replying.put_data.Goals as goal

pub returns-in-ReadUniqueIdentifier : goal.returns-in-ReadUniqueIdentifier
returns-in-ReadUniqueIdentifier g c =
    let f = c.requires.fields in
    let p = c.put.ensures in
    let u = c.unique_identifier_data.ensures in
    elim c.in-ReadUniqueIdentifier.is [ inl e ↦ rw (p, u, f, e) refl | inr e ↦ rw (p, u, f, e) refl ]
