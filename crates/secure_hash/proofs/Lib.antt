mod Digests
