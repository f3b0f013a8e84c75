-- OctetBits: the high-order bits of an octet, and the number that they write.
pub mod OctetBits
-- OctetValues: octets and the numbers that they write.
pub mod OctetValues
-- Agreement: when high-order bits agree, and that whole bytes and the bits left over tell it.
pub mod Agreement
-- Comparing: the rules by which bits are compared.
pub mod Comparing
-- AddressOctets: an address and its octets, one from the other.
pub mod AddressOctets
-- Clients: the octets of a client.
pub mod Clients
-- Matching: matching without a test.
pub mod Matching
-- Clearing: addresses match at a length exactly if they are equal after clearing the bits below it.
pub mod Clearing
