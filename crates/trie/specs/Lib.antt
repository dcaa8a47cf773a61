-- A trie of texts.
pub mod Trie
pub mod Laws
